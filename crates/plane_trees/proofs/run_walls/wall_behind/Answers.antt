use Rattle.std.proofs.Common.{◌∷◌, Contains, sym, subst}
use Rattle.venue_types.specs.declared.point.Point.{Point}
use Rattle.plane_exact.specs.Figure.{edges_from}
use Rattle.plane_exact.proofs.NearbyLemmas.{Contains-next}
use Rattle.plane_trees.proofs.WallLemmas.{near_edge, near_point, step_obstacle, step_free}
use Rattle.plane_trees.proofs.run_walls.wall_behind.Goals as goal

pub with_side-to-requires : goal.with_side-to-requires
with_side-to-requires c = near_point c.args.way.now.start c.args.way.now.end _ (c.args.start ∷ c.args.rest.now) (Contains-next c.args.start c.args.rest.now c.loop-point.point-index _ c.loop-point-test.true) c.requires.near

pub wall_of_step-requires-clause-near : goal.wall_of_step-requires-clause-near
wall_of_step-requires-clause-near c = near_edge c.args.way.now.start c.args.way.now.end c.loop-point.from.point c.with_side-to.result.point (c.args.start ∷ c.args.rest.now) c.loop-point.invariant.of_line (subst (λ (p : Point). Contains (c.args.start ∷ c.args.rest.now) p) (sym c.with_side-to.ensures.point) (Contains-next c.args.start c.args.rest.now c.loop-point.point-index _ c.loop-point-test.true)) c.requires.near

pub returns-in-Some-clause-found : goal.returns-in-Some-clause-found
returns-in-Some-clause-found c = step_obstacle c.loop-point.from.point c.with_side-to.result.point c.args.rest.now c.loop-point.point-index _ (edges_from c.args.start c.args.rest.now) c.args.rest.now c.args.way.now.start c.args.way.now.end c.args.way.now.tolerance c.loop-point-test.true c.with_side-to.ensures.point c.loop-point.invariant.ahead _ c.in-Some.ensures.found

pub loop-point-preserved : goal.loop-point-preserved
loop-point-preserved c = record {
  of_line = subst (λ (p : Point). Contains (c.args.start ∷ c.args.rest.now) p) (sym c.with_side-to.ensures.point) (Contains-next c.args.start c.args.rest.now c.loop-point.point-index _ c.loop-point-test.true);
  sided = c.with_side-to.ensures.side;
  ahead = step_free c.loop-point.from.point c.with_side-to.result.point c.args.rest.now c.loop-point.point-index _ (edges_from c.args.start c.args.rest.now) c.args.rest.now c.args.way.now.start c.args.way.now.end c.args.way.now.tolerance c.loop-point-test.true c.with_side-to.ensures.point c.loop-point.invariant.ahead c.in_default.ensures.none;
}
