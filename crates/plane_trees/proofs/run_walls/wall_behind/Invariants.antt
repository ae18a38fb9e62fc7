use Rattle.std.proofs.Common.{◌≡◌, ◌∷◌, drop, Contains}
use Rattle.plane_exact.specs.Plane.{side}
use Rattle.plane_exact.specs.Figure.{edges_from}
use Rattle.plane_trees.proofs.WallLemmas.{IsLineAhead}
use Rattle.plane_trees.proofs.run_walls.wall_behind.Given as goal

-- what lies ahead of the point that was reached decides
abbrev pub invariant-loop-point : goal.invariant-loop-point
invariant-loop-point l = record {
  of_line : Contains (l.fn.start ∷ l.rest) l.from.point;
  sided : l.from.side ≡ side l.way.start l.way.end l.from.point;
  ahead : IsLineAhead l.from.point (drop l.point-index l.rest) (edges_from l.fn.start l.rest) l.rest l.way.start l.way.end l.way.tolerance;
}
