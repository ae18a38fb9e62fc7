use Rattle.std.proofs.Common.{◌≡◌, length, heap_items, arith}
use Rattle.std.proofs.lemmas.Grind.{common_steps}
use Rattle.route_search.proofs.Heaps.{popped, none_waits}
use Rattle.route_search.proofs.frontier.Frontier.pop.Goals as goal

pub returns-then-is_empty-clause-none : goal.returns-then-is_empty-clause-none
returns-then-is_empty-clause-none c =
    let none : length (heap_items c.args.self.now.heap) ≡ 0 = grind (arith, common_steps) in
    none_waits c.args.self.now none

pub returns-in-Some-clause-found : goal.returns-in-Some-clause-found
returns-in-Some-clause-found c =
    let order = c.in-Some.ensures.heap_order c.args.self.now.ordered in
    popped c.args.self.now _ c.in-Some.least.0.0 c.in-Some.least.0.1 c.in-Some.ensures.len c.in-Some.ensures.permutation order.1
