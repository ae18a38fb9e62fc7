use Rattle.stop_order.proofs.LegLemmas.{AreReadTo}
use Rattle.stop_order.proofs.legs.legs_of.Given as goal

abbrev pub invariant-loop-i : goal.invariant-loop-i
invariant-loop-i l = AreReadTo l.costs l.legs l.i
