-- What the search knows of its ends are ways.
use Rattle.std.proofs.Common.{sym, subst}
use Rattle.std.proofs.lemmas.Result.{IfOk-weaker}
use Rattle.venue_history.specs.Ways.{Usable}
use Rattle.venue_state.specs.Touring.{AreFlagsOf, IsKnown, IsRow, IsWay}
use Rattle.venue_state.proofs.TourSearches.{known_row}
use Rattle.venue_state.proofs.board.Board.row.Goals as goal

pub returns : goal.returns
returns c =
    let v = c.args.self.now in
    let number = c.args.traveller.now.number in
    let profile = c.args.traveller.now.profile.now in
    let from = c.args.from in
    let to = c.args.to.now in
    let known = c.in_ok-known.known in
    let flagged = subst (AreFlagsOf to) (sym c.deref.ensures.value) c.in_ok-flags.ensures in
    IfOk-weaker c.ways_to.result (IsRow (IsKnown known) to) (IsRow (IsWay (Usable v number profile) from) to)
    (known_row v number profile from c.deref.result.now c.in_ok-count.count known to c.in_ok-known.ensures flagged c.in_ok-count.ensures)
    c.ways_to.ensures
