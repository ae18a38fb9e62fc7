use Rattle.std.proofs.Common.{refl, arith}
use Rattle.link_graph.specs.Areas.{areas}
use Rattle.route_answers.specs.Passing.{rows_of}
use Rattle.route_answers.proofs.Gathering.{at_place}
use Rattle.route_answers.proofs.Numbers.{areas_counted, areas_few}
use Rattle.route_answers.proofs.counts.across_count.Goals as goal

pub loop-w-init : goal.loop-w-init
unfolding rows_of
loop-w-init c = refl

pub overflow_add-count : goal.overflow_add-count
overflow_add-count c =
    let more = c.loop-w-test.true in
    let count = c.areas-w-end.ensures in
    let at = at_place (areas c.args.graph.now) c.loop-w.w (omega (arith, more, count)) in
    let few = areas_few c.args.graph.now c.args.profile.now c.loop-w.w at.0 c.loop-w.count c.in_ok-more.more at.1 c.loop-w.invariant (c.in_ok-more.ensures at.0 at.1) c.areas_law.ensures in
    let bound = c.range_law.ensures.links in
    omega (arith, few, bound)

pub loop-w-preserved : goal.loop-w-preserved
loop-w-preserved c =
    let more = c.loop-w-test.true in
    let count = c.areas-w-end.ensures in
    let at = at_place (areas c.args.graph.now) c.loop-w.w (omega (arith, more, count)) in
    areas_counted c.args.graph.now c.args.profile.now c.loop-w.w at.0 c.loop-w.count c.in_ok-more.more _ at.1 c.loop-w.invariant (c.in_ok-more.ensures at.0 at.1) refl
