-- Each place of the array is of one leg.
use Rattle.stop_order.proofs.LegLemmas.{no_legs, one_more_leg}
use Rattle.stop_order.proofs.legs.legs_of.Goals as goal

pub loop-i-init : goal.loop-i-init
loop-i-init c = no_legs c.args.costs.now

pub loop-i-preserved : goal.loop-i-preserved
loop-i-preserved c =
    one_more_leg c.args.costs.now c.loop-i.legs c.loop-i.i c.cost_or_far.result c.requires.small c.loop-i-test.true c.loop-i.invariant c.cost_or_far.ensures
