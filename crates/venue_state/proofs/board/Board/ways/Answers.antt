-- A row more beside the next stop.
use Rattle.std.proofs.Common.{◌++◌, ◌∷◌, [], arith}
use Rattle.venue_history.specs.Ways.{Usable}
use Rattle.venue_state.specs.Touring.{IsRow, IsTable, IsWay}
use Rattle.venue_state.proofs.TourTables.{zip_all}
use Rattle.venue_state.proofs.board.Board.ways.Goals as goal

pub returns : goal.returns
returns c =
    let U = Usable c.args.self.now c.args.traveller.now.number c.args.traveller.now.profile.now in
    let stops = c.args.stops.now in
    zip_all (λ n row. IsRow (IsWay U n) (stops ++ c.args.b ∷ []) row) (IsTable U c.args.a stops c.args.b) stops c.loop-stop.stop-index c.loop-stop.table (omega arith) c.loop-stop.invariant
