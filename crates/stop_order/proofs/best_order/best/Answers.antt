-- A least sum below far is the cost of a best order; where it is far, no order has a cost.
use Rattle.std.proofs.Common.{◌-◌, ◌^◌, ap}
use Rattle.stop_order.proofs.OrderLemmas.{best_from_least, none_from_least}
use Rattle.stop_order.proofs.best_order.best.Goals as goal

pub returns-then-order-lt-FAR-clause-best : goal.returns-then-order-lt-FAR-clause-best
returns-then-order-lt-FAR-clause-best c =
    best_from_least c.args.costs.now c.legs_of-legs.result _ _ _ c.legs_of-legs.ensures.legs c.requires.few (ap (λ n. 2 ^ n - 1) c.legs_of-legs.ensures.legs.count)
    c.least_order-order.ensures.way c.least_order-order.ensures.cost c.least_order-order.ensures.least c.if-order-lt-FAR.true

pub returns-else-order-lt-FAR-clause-none : goal.returns-else-order-lt-FAR-clause-none
returns-else-order-lt-FAR-clause-none c =
    none_from_least c.args.costs.now c.legs_of-legs.result _ _ c.legs_of-legs.ensures.legs c.requires.small c.requires.few
    (ap (λ n. 2 ^ n - 1) c.legs_of-legs.ensures.legs.count) c.least_order-order.ensures.least c.if-order-lt-FAR.false
