use Rattle.std.proofs.Common.{◌∷◌, [], List, ◌++◌, drop, Option}
use Rattle.std.specs.List.{AllZip}
use Rattle.venue_history.specs.Ways.{Usable}
use Rattle.venue_state.specs.declared.tour_ways.Way.{Way}
use Rattle.venue_state.specs.Touring.{IsRow, IsTable, IsWay}
use Rattle.venue_state.proofs.board.Board.ways.Given as goal

abbrev pub invariant-loop-stop : goal.invariant-loop-stop
invariant-loop-stop l = (rest : List (List (Option Way)))
    → AllZip (λ n row. IsRow (IsWay (Usable l.self l.traveller.number l.traveller.profile.now) n) (l.stops ++ l.b ∷ []) row) (drop l.stop-index l.stops) rest
    → IsTable (Usable l.self l.traveller.number l.traveller.profile.now) l.a l.stops l.b (l.table ++ rest)
