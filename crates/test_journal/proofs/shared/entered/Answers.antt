use Rattle.std.proofs.Common.{rules, ◌≡◌, [], ◌∷◌, ◌++◌, sym, ap, ◌∙◌}
use Rattle.venue_history.specs.Closed.{Version}
use Rattle.venue_history.specs.Versions.{after}
use Rattle.board_copies.proofs.Standing.{replays_so}
use Rattle.venue_state.proofs.Entering.{same_settings}
use Rattle.test_journal.proofs.shared.entered.Goals as goal

pub returns-clause-stands : goal.returns-clause-stands
returns-clause-stands c =
    let h = c.args.entries.now.items in
    let v : Version = c.args.board in
    let e = c.in-Ok.ready.entry in
    let ready = c.in-Ok.ensures.ready in
    let grown : c.push.new.self.items ≡ h ++ e ∷ [] = search rules in
    let at : c.in-Ok.ready.board ≡ after v e.act = ready.next_is ∙ ap (after v) (sym ready.act_is) in
    replays_so (h ++ e ∷ []) c.push.new.self.items (after v e.act) c.in-Ok.ready.board (c.entry_law.ensures h v e c.requires.stands ready.may) grown at

pub returns-clause-settings : goal.returns-clause-settings
returns-clause-settings c =
    let v : Version = c.args.board in
    ap (λ (w : Version). w.settings) c.in-Ok.ensures.ready.next_is ∙ same_settings v c.args.act
