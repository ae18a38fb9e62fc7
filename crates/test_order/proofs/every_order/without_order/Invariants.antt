use Rattle.std.proofs.Common.{◌≤◌}
use Rattle.test_order.proofs.every_order.without_order.Given as goal

abbrev pub invariant-loop-turn : goal.invariant-loop-turn
invariant-loop-turn l = l.without ≤ l.turn
