-- What the pass has seen then is what the office has published.
use Rattle.std.proofs.Common.{rules, ◌≡◌, ◌∙◌, List, length, sym, ap, subst}
use Rattle.std.specs.Arc.{arc_value}
use mathlib.Core.List.{IsPrefix}
use Rattle.venue_hall.specs.Entry.{Entry}
use Rattle.venue_hall.specs.Histories.{IsLegal, Replays}
use Rattle.board_copies.specs.Rules.{list_of}
use Rattle.shared_hall.proofs.office.OfficeOf+N+F+Keeper+J.tell.Goals as goal

pub invariant_of-pass : goal.invariant_of-pass
invariant_of-pass g c =
    let shown = c.self.inside.keeper.writer.desk.shown.value in
    let seen : c.meet_in.new.reader.place.me.0.client.seen ≡ list_of shown = search rules in
    let number : c.number-number.result ≡ (arc_value shown.held).board.number = search rules in
    let stands : Replays (list_of shown) (arc_value shown.held).board = (arc_value shown.held).stands in
    let pass = c.pass.invariant in
    let bound = c.meet_in.ensures.bound pass.0 in
    (bound.0, bound.1 ∙ pass.1, subst (IsPrefix g.N.HallName.opening) (sym seen) c.self.invariant.5, subst IsLegal (sym seen) stands.legal, number ∙ (c.number_law.ensures (list_of shown) (arc_value shown.held).board stands ∙ ap (λ (h : List Entry). length h) (sym seen)), pass.5, pass.6, pass.7)
