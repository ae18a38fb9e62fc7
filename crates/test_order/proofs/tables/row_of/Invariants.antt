use Rattle.test_order.specs.Rows.{IsSmallRow}
use Rattle.test_order.proofs.tables.row_of.Given as goal

abbrev pub invariant-loop-j : goal.invariant-loop-j
invariant-loop-j l = IsSmallRow l.row
