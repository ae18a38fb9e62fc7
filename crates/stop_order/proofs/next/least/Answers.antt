-- Nothing is left, or the best next stop tells.
use Rattle.std.proofs.Common.{arith}
use Rattle.stop_order.proofs.Ways.{least_by_next, least_at_end}
use Rattle.stop_order.proofs.next.least.Goals as goal

pub returns-then-set-eq0 : goal.returns-then-set-eq0
returns-then-set-eq0 c =
    rw (c.if-set-eq0.true, c.leg_cost.ensures) (least_at_end c.args.legs.now c.args.place)

pub returns-else-set-eq0 : goal.returns-else-set-eq0
returns-else-set-eq0 c =
    least_by_next c.args.legs.now c.args.table.now c.args.set c.args.place c.next.result c.requires.stops (omega arith) c.requires.known c.next.ensures.next
