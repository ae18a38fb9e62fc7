use Rattle.std.proofs.Common.{◌≡◌, suc, ◌-◌, length, arith}
use Rattle.plane_trees.proofs.GroveLemmas.{close_front, close_back, leaf_grove, join_grove, rings_joined}
use Rattle.plane_trees.proofs.over.+add_grove.Goals as goal

pub returns-then-depth-eq0-clause-grove : goal.returns-then-depth-eq0-clause-grove
returns-then-depth-eq0-clause-grove t c = leaf_grove c.args.depth c.args.origin c.args.rings.now c.octagon_of_rings-octagon.result c.args.octagons.now.items _ c.if-depth-eq0.true c.octagon_of_rings-octagon.ensures c.in_ok-push.ensures.items

pub add_grove-requires : goal.add_grove-requires
add_grove-requires t c = (omega (arith, c.if-depth-eq0.false), close_front c.args.origin c.args.rings.now c.split_at.result.0.now c.split_at.result.1.now c.split_at.ensures.by_index.0 c.requires)

pub add_grove-requires-2 : goal.add_grove-requires-2
add_grove-requires-2 t c = (omega (arith, c.if-depth-eq0.false), close_back c.args.origin c.args.rings.now c.split_at.result.0.now c.split_at.result.1.now c.split_at.ensures.by_index.0 c.requires)

pub returns-clause-round : goal.returns-clause-round
returns-clause-round t c = rings_joined c.in_ok-first.first c.in_ok-second.second c.with-octagon.result c.args.origin c.args.rings.now c.split_at.result.0.now c.split_at.result.1.now c.split_at.ensures.by_index.0 c.with-octagon.ensures.first c.with-octagon.ensures.second c.in_ok-first.ensures.round c.in_ok-second.ensures.round

pub returns-clause-grove : goal.returns-clause-grove
returns-clause-grove t c =
    let depth : c.args.depth ≡ suc (c.args.depth - 1) = omega (arith, c.if-depth-eq0.false) in
    let place : c.len-place.result ≡ length c.args.octagons.now.items = omega (arith, c.len-place.ensures, c.args.octagons.now.ok.0) in
    join_grove c.args.depth (c.args.depth - 1) c.len-place.result c.args.origin c.args.rings.now c.split_at.result.0.now c.split_at.result.1.now c.with-octagon.result _ c.args.octagons.now.items _ _ _
    depth place c.in_ok-push-2.ensures.items c.in_ok-first.ensures.grove c.in_ok-second.ensures.grove c.split_at.ensures.front c.split_at.ensures.back
    (rings_joined c.in_ok-first.first c.in_ok-second.second c.with-octagon.result c.args.origin c.args.rings.now c.split_at.result.0.now c.split_at.result.1.now c.split_at.ensures.by_index.0 c.with-octagon.ensures.first c.with-octagon.ensures.second c.in_ok-first.ensures.round c.in_ok-second.ensures.round)
