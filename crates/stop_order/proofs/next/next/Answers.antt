-- The first is tried, each further one leaves the better of two, and at the end none is left.
use Rattle.stop_order.proofs.Bits.{bit_below}
use Rattle.stop_order.proofs.NextLemmas.{first_tried, one_more_tried}
use Rattle.stop_order.proofs.next.next.Goals as goal

pub loop-left-init : goal.loop-left-init
loop-left-init c =
    rw c.without-left.ensures
    (first_tried c.args.legs.now c.args.table.now c.args.set c.args.place c.choice_of-best.result c.one_of-stop.result
    c.one_of-stop.ensures.has c.choice_of-best.ensures.stop c.choice_of-best.ensures.sum)

pub loop-left-preserved : goal.loop-left-preserved
loop-left-preserved c =
    rw c.without-left-in-loop-left.ensures
    (one_more_tried c.args.legs.now c.args.table.now c.args.set c.args.place c.loop-left.best c.choice_of.result c.lesser-best.result c.loop-left.left c.one_of-stop-in-loop-left.result
    c.loop-left.invariant c.one_of-stop-in-loop-left.ensures.has c.choice_of.ensures.stop c.choice_of.ensures.sum
    c.lesser-best.ensures.either c.lesser-best.ensures.first c.lesser-best.ensures.second)

pub returns-clause-few : goal.returns-clause-few
returns-clause-few c = bit_below c.args.set c.args.legs.now.stops c.loop-left.best.stop c.requires.stops c.loop-left.invariant.reached.has
