-- A point on a segment is a mean of its ends, so it lies in their range in each direction.
use Rattle.std.proofs.Common.{◌≡◌, ℤ, pos, neg_ℤ, ◌+ℤ◌, ◌-ℤ◌, ◌*ℤ◌, ◌≤ℤ◌, ◌<ℤ◌, refl, sym, ap, ◌∙◌, arith}
use Rattle.std.proofs.lemmas.Int.{ints, by_lt_z}
use Rattle.venue_types.specs.declared.point.Point.{Point}
use Rattle.plane_exact.specs.Plane.{side, along, squared_distance, square}
use Rattle.plane_exact.specs.Sight.{OnOpenSegment}
use Rattle.plane_trees.specs.Line.{Direction, coordinate, HaveCommonPoint}
use Rattle.plane_exact.proofs.PolynomialLemmas.{rep, rep-pos, rep-add, rep-sub, rep-mul, rep-same, upright_x, upright_y}
use Rattle.plane_trees.proofs.CrossingLemmas.{weighed, balanced, means_apart}

-- ---- weights

no_multiple : (z c : ℤ) → c ≡ pos 0 → z *ℤ c ≡ pos 0
no_multiple z c e = ap (λ k. z *ℤ k) e ∙ rep-same (rep-mul (rep z) (rep-pos 0)) (rep-pos 0) (omega arith)

equal_products : (x y w : ℤ) → x -ℤ y ≡ w → w ≡ pos 0 → x ≡ y
equal_products x y w e f = omega (arith, ints)

equal_turned : (x y w : ℤ) → x -ℤ y ≡ neg_ℤ w → w ≡ pos 0 → x ≡ y
equal_turned x y w e f = omega (arith, ints)

positive_difference : (x y : ℤ) → x <ℤ y → pos 0 <ℤ (y -ℤ x)
positive_difference x y h = omega (arith, ints)

without : (x y m n : ℤ) → x ≡ y +ℤ (m -ℤ n) → n ≡ m → x ≡ y
without x y m n e f = omega (arith, ints)

-- v is s parts of d on the way from a to b
mean_of : (d s a b v : ℤ) → d *ℤ (v -ℤ a) ≡ s *ℤ (b -ℤ a) → ((d -ℤ s) *ℤ a) +ℤ (s *ℤ b) ≡ ((d -ℤ s) *ℤ v) +ℤ (s *ℤ v)
mean_of d s a b v e =
    let rest = rep-sub (rep d) (rep s) in
    let whole : ((d -ℤ s) *ℤ a) +ℤ (s *ℤ b) ≡ (((d -ℤ s) *ℤ v) +ℤ (s *ℤ v)) +ℤ ((s *ℤ (b -ℤ a)) -ℤ (d *ℤ (v -ℤ a))) = rep-same
    (rep-add (rep-mul rest (rep a)) (rep-mul (rep s) (rep b)))
    (rep-add (rep-add (rep-mul rest (rep v)) (rep-mul (rep s) (rep v))) (rep-sub (rep-mul (rep s) (rep-sub (rep b) (rep a))) (rep-mul (rep d) (rep-sub (rep v) (rep a)))))
    (omega arith) in
    without (((d -ℤ s) *ℤ a) +ℤ (s *ℤ b)) (((d -ℤ s) *ℤ v) +ℤ (s *ℤ v)) (s *ℤ (b -ℤ a)) (d *ℤ (v -ℤ a)) whole e

x_parts : (a b v : Point) → side a b v ≡ pos 0 → squared_distance a b *ℤ (v.x -ℤ a.x) ≡ along a b v *ℤ (b.x -ℤ a.x)
unfolding side along squared_distance square
x_parts a b v h = equal_turned _ _ _ (upright_x (b.x -ℤ a.x) (b.y -ℤ a.y) (v.x -ℤ a.x) (v.y -ℤ a.y)) (no_multiple (b.y -ℤ a.y) _ h)

y_parts : (a b v : Point) → side a b v ≡ pos 0 → squared_distance a b *ℤ (v.y -ℤ a.y) ≡ along a b v *ℤ (b.y -ℤ a.y)
unfolding side along squared_distance square
y_parts a b v h = equal_products _ _ _ (upright_y (b.x -ℤ a.x) (b.y -ℤ a.y) (v.x -ℤ a.x) (v.y -ℤ a.y)) (no_multiple (b.x -ℤ a.x) _ h)

-- the point has itself in common with the segment
common_mean : (a b v : Point) → OnOpenSegment a b v → HaveCommonPoint a b v v
common_mean a b v on =
    let d = squared_distance a b in
    let s = along a b v in
    let rest = positive_difference s d on.before_end in
    weighed a b v v (d -ℤ s) s (d -ℤ s) s rest on.beyond_start rest on.beyond_start refl
    (mean_of d s a.x b.x v.x (x_parts a b v on.on_line))
    (mean_of d s a.y b.y v.y (y_parts a b v on.on_line))

-- ---- ranges

same_or_less : (m : ℤ) → m ≤ℤ m
same_or_less m = omega (arith, ints)

below_bound : (n m k : ℤ) → n <ℤ m → m ≤ℤ k → n <ℤ k
below_bound n m k h l = omega (arith, ints)

pub segment_least : (way : Direction) (m : ℤ) (a b v : Point) → OnOpenSegment a b v → m ≤ℤ coordinate way a → m ≤ℤ coordinate way b → m ≤ℤ coordinate way v
segment_least way m a b v on ha hb = from (common_mean a b v on) where
  from : HaveCommonPoint a b v v → m ≤ℤ coordinate way v
  from (u, s, k, r, h) =
      let n = coordinate way v in
      by_lt_z n m
      (λ less. absurd (means_apart n n n (coordinate way a) (coordinate way b) k r u s h.first (sym h.parts) (same_or_less n) (same_or_less n) (below_bound n m _ less ha) (below_bound n m _ less hb) (sym (balanced way a b v v u s k r h))))
      (λ more. more)

pub segment_greatest : (way : Direction) (m : ℤ) (a b v : Point) → OnOpenSegment a b v → coordinate way a ≤ℤ m → coordinate way b ≤ℤ m → coordinate way v ≤ℤ m
segment_greatest way m a b v on ha hb = from (common_mean a b v on) where
  from : HaveCommonPoint a b v v → coordinate way v ≤ℤ m
  from (u, s, k, r, h) =
      let n = coordinate way v in
      by_lt_z m n
      (λ more. absurd (means_apart m (coordinate way a) (coordinate way b) n n u s k r h.third h.parts ha hb more more (balanced way a b v v u s k r h)))
      (λ less. less)
