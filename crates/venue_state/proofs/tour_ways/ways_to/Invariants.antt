use Rattle.std.proofs.Common.{List, ◌++◌, drop, Option}
use Rattle.std.specs.List.{AllZip}
use Rattle.venue_state.specs.declared.tour_ways.Way.{Way}
use Rattle.venue_state.specs.Touring.{IsKnown, IsRow}
use Rattle.venue_state.proofs.tour_ways.ways_to.Given as goal

abbrev pub invariant-loop-node : goal.invariant-loop-node
invariant-loop-node l = (rest : List (Option Way)) → AllZip (IsKnown l.known) (drop l.node-index l.nodes) rest → IsRow (IsKnown l.known) l.nodes (l.row ++ rest)
