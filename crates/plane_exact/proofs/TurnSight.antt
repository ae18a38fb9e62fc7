-- Who is seen sees.
use Rattle.std.proofs.Common.{◌≡◌, ℕ, ◌*◌, ℤ, pos, neg_ℤ, ◌+ℤ◌, ◌-ℤ◌, ◌<ℤ◌, ◌⊎◌, inl, inr, ap₂, subst, arith}
use Rattle.std.proofs.lemmas.Int.{ints}
use Rattle.venue_types.specs.declared.point.Point.{Point}
use Rattle.venue_types.specs.declared.point.Spot.{Spot}
use Rattle.venue_types.specs.declared.point.Shape.{Shape}
use Rattle.plane_exact.specs.Plane.{side, along, squared_distance, square}
use Rattle.plane_exact.specs.Segment.{Crosses, HaveOppositeSigns}
use Rattle.plane_exact.specs.Figure.{IsInside, IsNear}
use Rattle.plane_exact.specs.Scaled.{scaled}
use Rattle.plane_exact.specs.Sight.{Sight, OnOpenSegment, middle_of}
use Rattle.plane_exact.proofs.PolynomialLemmas.{rep, rep-add, rep-sub, rep-neg, rep-mul, rep-same}

side_turned : (a b v : Point) → side b a v ≡ neg_ℤ (side a b v)
unfolding side
side_turned a b v =
    let there = rep-sub (rep-mul (rep-sub (rep b.x) (rep a.x)) (rep-sub (rep v.y) (rep a.y))) (rep-mul (rep-sub (rep b.y) (rep a.y)) (rep-sub (rep v.x) (rep a.x))) in
    let back = rep-sub (rep-mul (rep-sub (rep a.x) (rep b.x)) (rep-sub (rep v.y) (rep b.y))) (rep-mul (rep-sub (rep a.y) (rep b.y)) (rep-sub (rep v.x) (rep b.x))) in
    rep-same back (rep-neg there) (omega arith)

distance_turned : (a b : Point) → squared_distance b a ≡ squared_distance a b
unfolding squared_distance square
distance_turned a b =
    let x = rep-sub (rep b.x) (rep a.x) in
    let y = rep-sub (rep b.y) (rep a.y) in
    let u = rep-sub (rep a.x) (rep b.x) in
    let v = rep-sub (rep a.y) (rep b.y) in
    rep-same (rep-add (rep-mul u u) (rep-mul v v)) (rep-add (rep-mul x x) (rep-mul y y)) (omega arith)

along_turned : (a b v : Point) → along b a v ≡ squared_distance a b -ℤ along a b v
unfolding along squared_distance square
along_turned a b v =
    let x = rep-sub (rep b.x) (rep a.x) in
    let y = rep-sub (rep b.y) (rep a.y) in
    let back = rep-add (rep-mul (rep-sub (rep a.x) (rep b.x)) (rep-sub (rep v.x) (rep b.x))) (rep-mul (rep-sub (rep a.y) (rep b.y)) (rep-sub (rep v.y) (rep b.y))) in
    let there = rep-add (rep-mul x (rep-sub (rep v.x) (rep a.x))) (rep-mul y (rep-sub (rep v.y) (rep a.y))) in
    rep-same back (rep-sub (rep-add (rep-mul x x) (rep-mul y y)) there) (omega arith)

-- numbers turned round have opposite signs too, and so have they in the other order
opposite_turned : (m n u v : ℤ) → u ≡ neg_ℤ m → v ≡ neg_ℤ n → HaveOppositeSigns m n → HaveOppositeSigns u v
opposite_turned m n u v e f h = elim h [ inl s ↦ inr (above m u e s.0, below n v f s.1) | inr s ↦ inl (below m u e s.0, above n v f s.1) ] where
  above : (m u : ℤ) → u ≡ neg_ℤ m → m <ℤ pos 0 → pos 0 <ℤ u
  above m u e h = omega (arith, ints)

  below : (m u : ℤ) → u ≡ neg_ℤ m → pos 0 <ℤ m → u <ℤ pos 0
  below m u e h = omega (arith, ints)

swapped_signs : (m n : ℤ) → HaveOppositeSigns m n → HaveOppositeSigns n m
swapped_signs m n h = elim h [ inl s ↦ inr (s.1, s.0) | inr s ↦ inl (s.1, s.0) ]

crossing_turned : (a b c d : Point) → Crosses a b c d → Crosses b a c d
crossing_turned a b c d h = record {
  across_first = opposite_turned _ _ _ _ (side_turned a b c) (side_turned a b d) h.across_first;
  across_second = swapped_signs _ _ h.across_second;
}

at_zero : (m u : ℤ) → u ≡ neg_ℤ m → m ≡ pos 0 → u ≡ pos 0
at_zero m u e f = omega (arith, ints)

left_over : (m n u : ℤ) → u ≡ n -ℤ m → m <ℤ n → pos 0 <ℤ u
left_over m n u e h = omega (arith, ints)

less_left : (m n u v : ℤ) → u ≡ n -ℤ m → v ≡ n → pos 0 <ℤ m → u <ℤ v
less_left m n u v e f h = omega (arith, ints)

open_segment_turned : (a b v : Point) → OnOpenSegment a b v → OnOpenSegment b a v
open_segment_turned a b v h = record {
  on_line = at_zero _ _ (side_turned a b v) h.on_line;
  beyond_start = left_over _ _ _ (along_turned a b v) h.before_end;
  before_end = less_left _ _ _ _ (along_turned a b v) (distance_turned a b) h.beyond_start;
}

other : {P Q : Type 0} → P ⊎ Q → Q ⊎ P
other h = elim h [ inl p ↦ inr p | inr q ↦ inl q ]

sum_turned : (m n : ℤ) → m +ℤ n ≡ n +ℤ m
sum_turned m n = omega (arith, ints)

middle_turned : (a b : Spot) → middle_of a b ≡ middle_of b a
middle_turned a b = ap₂ (λ (x y : ℤ). record { x = x; y = y }) (sum_turned a.x b.x) (sum_turned a.y b.y)

pub sight_turned : (a b : Spot) (shape : Shape) (t : ℕ) → Sight a b shape t → Sight b a shape t
sight_turned a b shape t h = record {
  edges = λ k d within crossed. other (h.edges k d within (crossing_turned _ _ _ _ crossed));
  corners = λ k d within on. other (h.corners k d within (open_segment_turned _ _ _ on));
  middle = subst (λ (p : Point). IsInside p (scaled 4 shape) ⊎ IsNear p (scaled 4 shape) (4 * t)) (middle_turned a b) h.middle;
}
