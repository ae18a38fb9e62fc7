use Rattle.std.proofs.Common.{◌≡◌, map, take}
use Rattle.venue_history.specs.Closed.{closed_row}
use Rattle.venue_state.proofs.closures.rows_of.Given as goal

abbrev pub invariant-loop-it : goal.invariant-loop-it
invariant-loop-it l = l.rows.items ≡ map (closed_row l.settings) (take l.it-index l.closed)
