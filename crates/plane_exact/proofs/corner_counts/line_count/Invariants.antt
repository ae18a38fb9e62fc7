use Rattle.std.proofs.Common.{◌≡◌, ◌+◌, ◌∷◌, length, drop}
use Rattle.plane_exact.specs.Figure.{AllNearby}
use Rattle.plane_exact.specs.Corners.{line_corners}
use Rattle.plane_exact.proofs.corner_counts.line_count.Given as goal

-- the corners so far and those of the line ahead make up all
abbrev pub invariant-loop-c : goal.invariant-loop-c
invariant-loop-c l = record {
  near : AllNearby (l.a ∷ l.b ∷ drop l.c-index l.rest);
  whole : l.count + length (line_corners l.fn.area l.a l.b (drop l.c-index l.rest)) ≡ length (line_corners l.fn.area l.fn.before l.fn.at l.rest);
}
