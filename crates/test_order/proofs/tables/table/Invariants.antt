use Rattle.test_order.proofs.Small.{AreSmallRows}
use Rattle.test_order.proofs.tables.table.Given as goal

abbrev pub invariant-loop-i : goal.invariant-loop-i
invariant-loop-i l = AreSmallRows l.rows
