use Rattle.stop_order.proofs.NextLemmas.{IsBestYet}
use Rattle.stop_order.proofs.next.next.Given as goal

abbrev pub invariant-loop-left : goal.invariant-loop-left
invariant-loop-left l = IsBestYet l.legs l.table l.set l.place l.best l.left

abbrev pub decreases-loop-left : goal.decreases-loop-left
decreases-loop-left l = l.left
