use Rattle.std.proofs.Common.{◌≡◌, ◌∷◌, ◌*◌, pos, ◌+ℤ◌, drop}
use Rattle.plane_exact.specs.Plane.{IsWithin}
use Rattle.plane_exact.specs.Figure.{AllNearby, edges_from}
use Rattle.plane_exact.specs.Corners.{cross_sum}
use Rattle.plane_exact.proofs.areas.sum_along.Given as goal

-- the sum so far and that of the edges ahead make up all
abbrev pub invariant-loop-b : goal.invariant-loop-b
invariant-loop-b l = record {
  near : AllNearby (l.origin ∷ l.a ∷ drop l.b-index l.rest);
  range : IsWithin (l.b-index * 1280000000000000000) l.sum (pos 0);
  whole : l.sum +ℤ cross_sum l.origin (edges_from l.a (drop l.b-index l.rest)) ≡ cross_sum l.origin (edges_from l.fn.origin l.rest);
}
