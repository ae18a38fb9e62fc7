use Rattle.stop_order.proofs.TableLemmas.{IsFilledTo}
use Rattle.stop_order.proofs.table.fill_set.Given as goal

abbrev pub invariant-loop-stop : goal.invariant-loop-stop
invariant-loop-stop l = IsFilledTo l.legs l.table l.set l.stop
