use Rattle.std.proofs.Common.{Any, arith}
use Rattle.plane_exact.specs.Segment.{IsNearEdge}
use Rattle.plane_exact.specs.Figure.{Edge, ring_edges}
use Rattle.plane_trees.proofs.RunLemmas.{enough, left_over, any_of_parts, any_from_front, any_from_back}
use Rattle.plane_trees.proofs.GroveLemmas.{rings_edges, close_front, close_back}
use Rattle.plane_trees.proofs.grove_borders.+is_near_grove.Goals as goal

pub is_near_grove-requires : goal.is_near_grove-requires
is_near_grove-requires t c =
    let half = c.in-Some.ensures in
    (omega (arith, half.front_depth), (close_front c.args.asked.now.position c.args.grove.rings.now c.in-Some.front.rings.now c.in-Some.back.rings.now half.rings c.requires.close, (half.front_sound c.args.asked.now.origin c.requires.sound, (c.requires.measured, c.requires.tolerance))))

pub is_near_grove-requires-else-is_near_grove : goal.is_near_grove-requires-else-is_near_grove
is_near_grove-requires-else-is_near_grove t c =
    let half = c.in-Some.ensures in
    (omega (arith, half.back_depth), (close_back c.args.asked.now.position c.args.grove.rings.now c.in-Some.front.rings.now c.in-Some.back.rings.now half.rings c.requires.close, (half.back_sound c.args.asked.now.origin c.requires.sound, (c.requires.measured, c.requires.tolerance))))

pub returns-then-is_near_grove : goal.returns-then-is_near_grove
returns-then-is_near_grove t c =
    let P = λ (edge : Edge). IsNearEdge c.args.asked.now.position edge.from edge.to c.args.t in
    let front = c.in-Some.front.rings.now in
    let back = c.in-Some.back.rings.now in
    let parts = rings_edges c.args.grove.rings.now front back c.in-Some.ensures.rings in
    enough c.is_near_grove.result _ _ c.if-is_near_grove.true c.is_near_grove.ensures (any_from_front P (ring_edges c.args.grove.rings.now) (ring_edges front) (ring_edges back) parts)

pub returns-else-is_near_grove : goal.returns-else-is_near_grove
returns-else-is_near_grove t c =
    let P = λ (edge : Edge). IsNearEdge c.args.asked.now.position edge.from edge.to c.args.t in
    let whole = ring_edges c.args.grove.rings.now in
    let front = ring_edges c.in-Some.front.rings.now in
    let back = ring_edges c.in-Some.back.rings.now in
    let parts = rings_edges c.args.grove.rings.now c.in-Some.front.rings.now c.in-Some.back.rings.now c.in-Some.ensures.rings in
    left_over c.is_near_grove.result c.is_near_grove-else-is_near_grove.result (Any P front) (Any P back) _ c.if-is_near_grove.false c.is_near_grove.ensures c.is_near_grove-else-is_near_grove.ensures
    (any_from_front P whole front back parts) (any_from_back P whole front back parts) (any_of_parts P whole front back parts)
