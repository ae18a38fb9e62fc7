use Rattle.std.proofs.Common.{get_or, arith}
use Rattle.route_certificate.proofs.PriceLemmas.{chain_more, link_costs, broken_at}
use Rattle.route_certificate.proofs.walk_price.follow.Goals as goal

pub returns-in-None : goal.returns-in-None
returns-in-None c =
    broken_at c.args.links.now c.args.from c.args.steps.now c.loop-place.place c.loop-place.at c.loop-place.cost c.loop-place-test.true c.loop-place.invariant.chain c.in-None.ensures.none

pub loop-place-preserved : goal.loop-place-preserved
loop-place-preserved c =
    let step = c.in-Some.ensures.found in
    let bound = link_costs c.args.links.now (get_or c.args.steps.now c.loop-place.place 0) c.in-Some.link c.requires.costs step.is in
    record {
      chain = chain_more c.args.links.now c.args.from c.args.steps.now c.loop-place.at c.loop-place.cost c.loop-place.place c.in-Some.link c.loop-place-test.true c.loop-place.invariant.chain step;
      bound = omega (arith, bound, c.loop-place.invariant.bound);
    }
