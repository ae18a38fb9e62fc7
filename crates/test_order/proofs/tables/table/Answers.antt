use Rattle.test_order.proofs.Small.{small_table}
use Rattle.test_order.proofs.tables.table.Goals as goal

pub returns-clause-small : goal.returns-clause-small
returns-clause-small c = small_table _ c.loop-i.invariant
