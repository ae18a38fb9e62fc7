-- Sums of cross products in 128 bits, and which positions are near along a line from its origin.
use Rattle.std.proofs.Common.{◌≡◌, ℕ, ◌+◌, ◌*◌, ◌^◌, ◌<◌, ℤ, pos, ◌+ℤ◌, FitsSigned, w64, to_z, of_z, List, ◌∷◌, length, get_or, drop, refl, subst, arith}
use mir.Syntax.{w128}
use Rattle.std.proofs.lemmas.Int.{ints}
use Rattle.venue_types.specs.declared.point.Point.{Point}
use Rattle.plane_exact.specs.Plane.{IsWithin, IsNearby, side}
use Rattle.plane_exact.specs.Figure.{AllNearby, edges_from}
use Rattle.plane_exact.specs.Corners.{cross_sum}
use Rattle.plane_exact.proofs.ListLemmas.{drop_at}
use Rattle.plane_exact.proofs.NearbyLemmas.{AllNearby-origin, chain_step}

-- ---- along a line

pub with_start : (origin : Point) (rest : List Point) → AllNearby (origin ∷ rest) → AllNearby (origin ∷ origin ∷ rest)
with_start origin rest h = AllNearby-origin origin (origin ∷ rest) (0, omega arith, refl) h

pub origin_start : (p a : Point) (rest : List Point) → AllNearby (p ∷ a ∷ rest) → IsNearby p a
origin_start p a rest h = h.near p a (0, omega arith, refl) (1, omega arith, refl)

pub origin_end : (p a : Point) (rest : List Point) (i : ℕ) (d : Point) → i < length rest → AllNearby (p ∷ a ∷ drop i rest) → IsNearby p (get_or rest i d)
origin_end p a rest i d within h = origin_start p (get_or rest i d) (drop (i + 1) rest) (chain_step p a rest i d within h)

-- ---- sums of fewer than 2 ^ 64 cross products

wide : (n : ℤ) → IsWithin 1280000000000000000 n (pos 0) → to_z w128 (of_z w128 (to_z w64 (of_z w64 n))) ≡ n
wide n h = omega (arith, ints)

pub sum_fits : (i : ℕ) (sum more : ℤ) → i < 2 ^ 64 → IsWithin (i * 1280000000000000000) sum (pos 0) → IsWithin 1280000000000000000 more (pos 0) → FitsSigned w128 (sum +ℤ to_z w128 (of_z w128 (to_z w64 (of_z w64 more))))
sum_fits i sum more below h k = rw (wide more k) (omega (arith, ints))

pub sum_back : (i : ℕ) (sum more : ℤ) → i < 2 ^ 64 → IsWithin (i * 1280000000000000000) sum (pos 0) → IsWithin 1280000000000000000 more (pos 0) → to_z w128 (of_z w128 (sum +ℤ to_z w128 (of_z w128 (to_z w64 (of_z w64 more))))) ≡ sum +ℤ more
sum_back i sum more below h k = rw (wide more k) (omega (arith, ints))

pub sum_range : (i : ℕ) (sum more : ℤ) → IsWithin (i * 1280000000000000000) sum (pos 0) → IsWithin 1280000000000000000 more (pos 0) → IsWithin ((i + 1) * 1280000000000000000) (sum +ℤ more) (pos 0)
sum_range i sum more h k = record { above = omega (arith, ints); below = omega (arith, ints) }

pub whole_range : (i : ℕ) (sum : ℤ) → i < 2 ^ 64 → IsWithin (i * 1280000000000000000) sum (pos 0) → IsWithin 25000000000000000000000000000000000000 sum (pos 0)
whole_range i sum below h = record { above = omega (arith, ints); below = omega (arith, ints) }

moved : (sum more product rest total : ℤ) → more ≡ product → sum +ℤ (product +ℤ rest) ≡ total → (sum +ℤ more) +ℤ rest ≡ total
moved sum more product rest total e h = omega (arith, ints)

-- one edge more
pub sum_step : (origin a : Point) (rest : List Point) (i : ℕ) (d : Point) (sum more total : ℤ) → i < length rest → more ≡ side origin a (get_or rest i d)
    → sum +ℤ cross_sum origin (edges_from a (drop i rest)) ≡ total → (sum +ℤ more) +ℤ cross_sum origin (edges_from (get_or rest i d) (drop (i + 1) rest)) ≡ total
sum_step origin a rest i d sum more total within e h =
    let P : List Point → Type 0 = λ ys. sum +ℤ cross_sum origin (edges_from a ys) ≡ total in
    moved sum more (side origin a (get_or rest i d)) _ total e (subst P (drop_at rest i (get_or rest i d) d within refl) h)
