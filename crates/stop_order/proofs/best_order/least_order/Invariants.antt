use Rattle.stop_order.proofs.Turns.{LeadsOn}
use Rattle.stop_order.proofs.best_order.least_order.Given as goal

abbrev pub invariant-loop-turn : goal.invariant-loop-turn
invariant-loop-turn l = LeadsOn l.legs l.places l.turn l.left l.place l.cost
