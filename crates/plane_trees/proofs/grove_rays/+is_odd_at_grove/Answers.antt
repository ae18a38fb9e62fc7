use Rattle.std.proofs.Common.{arith}
use Rattle.plane_exact.specs.Figure.{ring_edges}
use Rattle.plane_exact.proofs.ParityLemmas.{odd_parts}
use Rattle.plane_trees.proofs.GroveLemmas.{rings_edges, close_front, close_back, closed_front, closed_back}
use Rattle.plane_trees.proofs.grove_rays.+is_odd_at_grove.Goals as goal

pub is_odd_at_grove-requires : goal.is_odd_at_grove-requires
is_odd_at_grove-requires t c =
    let half = c.in-Some.ensures in
    (omega (arith, half.front_depth), (close_front c.args.asked.now.position c.args.grove.rings.now c.in-Some.front.rings.now c.in-Some.back.rings.now half.rings c.requires.close, (half.front_sound c.args.asked.now.origin c.requires.sound, (c.requires.measured, λ closed. closed_front c.args.grove.rings.now c.in-Some.front.rings.now c.in-Some.back.rings.now half.rings (c.requires.closed closed)))))

pub is_odd_at_grove-requires-in-Some : goal.is_odd_at_grove-requires-in-Some
is_odd_at_grove-requires-in-Some t c =
    let half = c.in-Some.ensures in
    (omega (arith, half.back_depth), (close_back c.args.asked.now.position c.args.grove.rings.now c.in-Some.front.rings.now c.in-Some.back.rings.now half.rings c.requires.close, (half.back_sound c.args.asked.now.origin c.requires.sound, (c.requires.measured, λ closed. closed_back c.args.grove.rings.now c.in-Some.front.rings.now c.in-Some.back.rings.now half.rings (c.requires.closed closed)))))

pub returns-in-Some : goal.returns-in-Some
returns-in-Some t c =
    let front = c.in-Some.front.rings.now in
    let back = c.in-Some.back.rings.now in
    odd_parts c.args.asked.now.position (ring_edges c.args.grove.rings.now) (ring_edges front) (ring_edges back) c.is_odd_at_grove.result c.is_odd_at_grove-in-Some.result (rings_edges c.args.grove.rings.now front back c.in-Some.ensures.rings) c.is_odd_at_grove.ensures c.is_odd_at_grove-in-Some.ensures
