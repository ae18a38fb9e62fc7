use Rattle.std.proofs.Common.{◌≡◌, ◌∷◌, ◌++◌, [], false, arith, sym, ap, ◌∙◌}
use Rattle.std.proofs.lemmas.Grind.{common_steps}
use Rattle.venue_ports.specs.DiskCalls.{content_of, is_full, noted_moments}
use Rattle.venue_ports.proofs.CallLemmas.{kept_noted, moments_noted}
use Rattle.venue_ports.proofs.disk_calls.CallRecord.note.Goals as goal

pub invariant_of-self-else-is_full : goal.invariant_of-self-else-is_full
invariant_of-self-else-is_full c =
    let pushed : c.push.new.self.items ≡ c.self.inside.calls.items ++ c.args.call ∷ [] = grind (arith, common_steps) in
    (omega arith, c.self.invariant.1, omega arith, kept_noted _ _ c.args.call _ c.self.invariant.3 pushed c.requires.nothing.0 c.requires.nothing.1)

pub returns-else-is_full-clause-moments : goal.returns-else-is_full-clause-moments
returns-else-is_full-clause-moments c =
    let pushed : c.push.new.self.items ≡ c.self.inside.calls.items ++ c.args.call ∷ [] = grind (arith, common_steps) in
    moments_noted _ _ c.args.call _ c.self.invariant.3 pushed c.requires.nothing.0 (ap is_full c.self.view_is ∙ sym c.is_full.ensures.exact ∙ c.if-is_full.false)
    ∙ ap (noted_moments c.args.call []) c.self.view_is

pub returns-else-is_full-clause-content : goal.returns-else-is_full-clause-content
returns-else-is_full-clause-content c =
    let pushed : c.push.new.self.items ≡ c.self.inside.calls.items ++ c.args.call ∷ [] = grind (arith, common_steps) in
    sym (kept_noted _ _ c.args.call _ c.self.invariant.3 pushed c.requires.nothing.0 c.requires.nothing.1).content ∙ c.self.invariant.3.content ∙ ap content_of c.self.view_is
