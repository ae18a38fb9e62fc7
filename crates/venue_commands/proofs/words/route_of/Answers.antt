use Rattle.std.proofs.Common.{◌≡◌, ℕ, List, [], ◌∷◌, codes, sym, ap, ◌∙◌}
use Rattle.std.proofs.lemmas.Slice.Eq.{bytes_eq-Decides}
use Rattle.venue_types.specs.Identifier.{identifier_read}
use Rattle.venue_commands.proofs.words.route_of.Goals as goal

pub returns-then-is_folder-clause-found : goal.returns-then-is_folder-clause-found
returns-then-is_folder-clause-found c =
    let six = c.in_ok-command in
    let named : six.command.now ≡ codes "route" = (bytes_eq-Decides six.command.now (codes "route")).0 (sym c.if-eq.ensures) in
    record {
      from = six.from.now;
      to = six.to.now;
      from_is = ap identifier_read (sym c.as_bytes.ensures.value) ∙ sym c.in_ok-from.ensures;
      to_is = ap identifier_read (sym c.as_bytes-2.ensures.value) ∙ sym c.in_ok-to.ensures;
      asks = (record {
        form = (c.if-is_base.ensures.yes, c.if-is_folder.ensures.yes, (c.in_ok-from.from, ap identifier_read (sym c.as_bytes.ensures.value) ∙ sym c.in_ok-from.ensures), (c.in_ok-to.to, ap identifier_read (sym c.as_bytes-2.ensures.value) ∙ sym c.in_ok-to.ensures));
        spelled = six.ensures.found ∙ ap (λ (word : List ℕ). word ∷ six.base.now ∷ six.folder.now ∷ six.profile.now ∷ six.from.now ∷ six.to.now ∷ []) named;
      });
    }
