use Rattle.stop_order.specs.Sums.{IsKnown}
use Rattle.stop_order.proofs.table.table_of.Given as goal

abbrev pub invariant-loop-set : goal.invariant-loop-set
invariant-loop-set l = IsKnown l.legs l.table l.set
