-- From each turn the stops so far lead on by a least way, and after the last nothing is left.
use Rattle.std.proofs.Common.{arith, ◌-◌, ap}
use Rattle.stop_order.proofs.Turns.{some_left, leads_off, leads_on, leads_to_end}
use Rattle.stop_order.proofs.best_order.least_order.Goals as goal

pub loop-turn-init : goal.loop-turn-init
loop-turn-init c =
    leads_off c.args.legs.now _ c.least-cost.result c.requires.capped.few (ap (λ n. n - 1) c.only-left.ensures.is) c.least-cost.ensures

pub next-stop-requires-clause-some : goal.next-stop-requires-clause-some
next-stop-requires-clause-some c =
    some_left c.args.legs.now c.loop-turn.places c.loop-turn.turn c.loop-turn.left c.loop-turn.place c.least-cost.result c.loop-turn.invariant
    c.loop-turn-test.true

pub loop-turn-preserved : goal.loop-turn-preserved
loop-turn-preserved c =
    rw c.without-left.ensures
    (leads_on c.args.legs.now c.args.table.now c.loop-turn.places c.loop-turn.turn c.loop-turn.left c.loop-turn.place c.least-cost.result c.next-stop.result
    c.requires.capped.few c.loop-turn-test.true c.requires.known c.loop-turn.invariant c.next-stop.ensures.next)

pub returns-clause-way : goal.returns-clause-way
returns-clause-way c =
    (leads_to_end c.args.legs.now c.loop-turn.places c.loop-turn.turn c.loop-turn.left c.loop-turn.place c.least-cost.result (omega arith)
    c.loop-turn.invariant).0

pub returns-clause-cost : goal.returns-clause-cost
returns-clause-cost c =
    (leads_to_end c.args.legs.now c.loop-turn.places c.loop-turn.turn c.loop-turn.left c.loop-turn.place c.least-cost.result (omega arith)
    c.loop-turn.invariant).1
