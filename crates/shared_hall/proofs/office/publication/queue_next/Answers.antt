-- The settings stay.
use Rattle.std.proofs.Common.{rules, ◌≡◌, ◌∙◌, ap}
use Rattle.std.specs.Arc.{arc_value}
use Rattle.board_copies.specs.declared.held.Held.{Held}
use Rattle.venue_hall.specs.Closed.{Version}
use Rattle.board_copies.proofs.Entering.{same_settings}
use Rattle.shared_hall.proofs.office.publication.queue_next.Goals as goal

pub returns-clause-settings : goal.returns-clause-settings
returns-clause-settings c =
    let now : arc_value c.in_ok-last.last ≡ c.in_ok-next.next = search rules in
    ap (λ (h : Held). h.board.settings) now
    ∙ (ap (λ (v : Version). v.settings) (c.in_ok-next.ensures.board ∙ c.requires.next)
    ∙ same_settings (arc_value c.args.keeper.now.writer.desk.shown.value.held).board c.args.ready.entry.act)
