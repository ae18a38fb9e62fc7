use Rattle.std.proofs.Common.{sym}
use Rattle.plane_exact.specs.Figure.{ring_points, ring_edges}
use Rattle.plane_trees.proofs.WallLemmas.{near_fewer, item_contained, ring_obstacle, ring_free}
use Rattle.plane_trees.proofs.grove_walls.wall_of_bands.Goals as goal

pub wall_between-requires-clause-near : goal.wall_between-requires-clause-near
wall_between-requires-clause-near c = near_fewer c.args.a c.args.b _ (ring_points c.args.rings.now) (item_contained c.args.rings.now c.loop-ring.ring-index _ _ c.loop-ring-test.true (sym c.ring-item.is)) c.requires.near

pub returns-in-Some-clause-found : goal.returns-in-Some-clause-found
returns-in-Some-clause-found c = ring_obstacle c.args.rings.now c.loop-ring.ring-index _ _ (ring_edges c.args.rings.now) (ring_points c.args.rings.now) c.args.a c.args.b c.args.t c.loop-ring-test.true (sym c.ring-item.is) c.loop-ring.invariant _ c.in-Some.ensures.found

pub loop-ring-preserved : goal.loop-ring-preserved
loop-ring-preserved c = ring_free c.args.rings.now c.loop-ring.ring-index _ _ (ring_edges c.args.rings.now) (ring_points c.args.rings.now) c.args.a c.args.b c.args.t c.loop-ring-test.true (sym c.ring-item.is) c.loop-ring.invariant c.in_default.ensures.none
