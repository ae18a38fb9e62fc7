use Rattle.std.proofs.Common.{◌<◌, ◌^◌, to_z, rules, arith}
use mir.Syntax.{w128}
use Rattle.plane_exact.proofs.NearbyLemmas.{chain_step}
use Rattle.plane_exact.proofs.AreaLemmas.{with_start, origin_start, origin_end, sum_fits, sum_back, sum_range, sum_step, whole_range}
use Rattle.plane_exact.proofs.areas.sum_along.Goals as goal

pub cross_product-requires-clause-first : goal.cross_product-requires-clause-first
cross_product-requires-clause-first c = origin_start c.args.origin c.loop-b.a _ c.loop-b.invariant.near

pub cross_product-requires-clause-second : goal.cross_product-requires-clause-second
cross_product-requires-clause-second c = origin_end c.args.origin c.loop-b.a c.args.rest.now c.loop-b.b-index _ c.loop-b-test.true c.loop-b.invariant.near

pub loop-b-init : goal.loop-b-init
loop-b-init c = record { near = with_start c.args.origin c.args.rest.now c.requires; range = search rules; whole = search rules }

pub overflow_add-sum : goal.overflow_add-sum
overflow_add-sum c =
    let below : c.loop-b.b-index < 2 ^ 64 = omega arith in
    sum_fits c.loop-b.b-index _ c.cross_product.result below c.loop-b.invariant.range c.cross_product.ensures.range

pub loop-b-preserved : goal.loop-b-preserved
loop-b-preserved c =
    let i = c.loop-b.b-index in
    let sum = to_z w128 c.loop-b.sum-bits in
    let below : i < 2 ^ 64 = omega arith in
    let back = sum_back i sum c.cross_product.result below c.loop-b.invariant.range c.cross_product.ensures.range in
    record {
      near = chain_step c.args.origin c.loop-b.a c.args.rest.now i _ c.loop-b-test.true c.loop-b.invariant.near;
      range = rw back (sum_range i sum c.cross_product.result c.loop-b.invariant.range c.cross_product.ensures.range);
      whole = rw back (sum_step c.args.origin c.loop-b.a c.args.rest.now i _ sum c.cross_product.result _ c.loop-b-test.true c.cross_product.ensures.value c.loop-b.invariant.whole);
    }

pub returns-clause-range : goal.returns-clause-range
returns-clause-range c =
    let below : c.loop-b.b-index < 2 ^ 64 = omega arith in
    whole_range c.loop-b.b-index _ below c.loop-b.invariant.range
