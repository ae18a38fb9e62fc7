-- Two segments that cross have a common point, so in no direction do their ranges lie apart.
use Rattle.std.proofs.Common.{◌≡◌, ℕ, ◌+◌, ◌<◌, ℤ, pos, neg_ℤ, ◌+ℤ◌, ◌-ℤ◌, ◌*ℤ◌, ◌≤ℤ◌, ◌<ℤ◌, unsigned_abs, List, ◌∷◌, All, Contains, inl, inr, sym, refl, arith}
use Rattle.std.proofs.lemmas.Int.{ints}
use Rattle.venue_types.specs.declared.point.Point.{Point}
use Rattle.plane_exact.specs.Plane.{side}
use Rattle.plane_exact.specs.Segment.{Crosses}
use Rattle.plane_exact.specs.Figure.{Edge, edges_from}
use Rattle.plane_trees.specs.Line.{Direction, Longitude, Latitude, Rising, Falling, coordinate, CommonPoint, HaveCommonPoint}
use Rattle.plane_exact.proofs.PolynomialLemmas.{rep, rep-pos, rep-add, rep-sub, rep-mul, rep-neg, rep-same, multiple_le}
use Rattle.plane_trees.proofs.LineLemmas.{ends_of_edge}

-- ---- the sides as weights

-- the cross product of b - a and p - a, axis by axis
abbrev across : (ax ay bx by px py : ℤ) → ℤ
across ax ay bx by px py = ((bx -ℤ ax) *ℤ (py -ℤ ay)) -ℤ ((by -ℤ ay) *ℤ (px -ℤ ax))

parts_same : (ax ay bx by cx cy dx dy : ℤ) → across ax ay bx by dx dy -ℤ across ax ay bx by cx cy ≡ across cx cy dx dy ax ay -ℤ across cx cy dx dy bx by
parts_same ax ay bx by cx cy dx dy =
    let side_of = λ (ax ay bx by px py : ℤ). rep-sub (rep-mul (rep-sub (rep bx) (rep ax)) (rep-sub (rep py) (rep ay))) (rep-mul (rep-sub (rep by) (rep ay)) (rep-sub (rep px) (rep ax))) in
    rep-same
    (rep-sub (side_of ax ay bx by dx dy) (side_of ax ay bx by cx cy))
    (rep-sub (side_of cx cy dx dy ax ay) (side_of cx cy dx dy bx by))
    (omega arith)

x_same : (ax ay bx by cx cy dx dy : ℤ) → (across cx cy dx dy ax ay *ℤ bx) -ℤ (across cx cy dx dy bx by *ℤ ax) ≡ (across ax ay bx by dx dy *ℤ cx) -ℤ (across ax ay bx by cx cy *ℤ dx)
x_same ax ay bx by cx cy dx dy =
    let side_of = λ (ax ay bx by px py : ℤ). rep-sub (rep-mul (rep-sub (rep bx) (rep ax)) (rep-sub (rep py) (rep ay))) (rep-mul (rep-sub (rep by) (rep ay)) (rep-sub (rep px) (rep ax))) in
    rep-same
    (rep-sub (rep-mul (side_of cx cy dx dy ax ay) (rep bx)) (rep-mul (side_of cx cy dx dy bx by) (rep ax)))
    (rep-sub (rep-mul (side_of ax ay bx by dx dy) (rep cx)) (rep-mul (side_of ax ay bx by cx cy) (rep dx)))
    (omega arith)

y_same : (ax ay bx by cx cy dx dy : ℤ) → (across cx cy dx dy ax ay *ℤ by) -ℤ (across cx cy dx dy bx by *ℤ ay) ≡ (across ax ay bx by dx dy *ℤ cy) -ℤ (across ax ay bx by cx cy *ℤ dy)
y_same ax ay bx by cx cy dx dy =
    let side_of = λ (ax ay bx by px py : ℤ). rep-sub (rep-mul (rep-sub (rep bx) (rep ax)) (rep-sub (rep py) (rep ay))) (rep-mul (rep-sub (rep by) (rep ay)) (rep-sub (rep px) (rep ax))) in
    rep-same
    (rep-sub (rep-mul (side_of cx cy dx dy ax ay) (rep by)) (rep-mul (side_of cx cy dx dy bx by) (rep ay)))
    (rep-sub (rep-mul (side_of ax ay bx by dx dy) (rep cy)) (rep-mul (side_of ax ay bx by cx cy) (rep dy)))
    (omega arith)

natural : (z : ℤ) → pos 0 <ℤ z → (pos (unsigned_abs z) ≡ z) × (0 < unsigned_abs z)
natural z h = (omega (arith, ints), omega (arith, ints))

turned_product : (x v : ℤ) → neg_ℤ x *ℤ v ≡ neg_ℤ (x *ℤ v)
turned_product x v = rep-same (rep-mul (rep-neg (rep x)) (rep v)) (rep-neg (rep-mul (rep x) (rep v))) (omega arith)

-- weights in whole numbers above 0
pub weighed : (a b c d : Point) (u s v r : ℤ) → pos 0 <ℤ u → pos 0 <ℤ s → pos 0 <ℤ v → pos 0 <ℤ r → u +ℤ s ≡ v +ℤ r → (u *ℤ a.x) +ℤ (s *ℤ b.x) ≡ (v *ℤ c.x) +ℤ (r *ℤ d.x) → (u *ℤ a.y) +ℤ (s *ℤ b.y) ≡ (v *ℤ c.y) +ℤ (r *ℤ d.y) → HaveCommonPoint a b c d
weighed a b c d u s v r hu hs hv hr parts x y =
    let nu = natural u hu in
    let ns = natural s hs in
    let nv = natural v hv in
    let nr = natural r hr in (
      unsigned_abs u,
      unsigned_abs s,
      unsigned_abs v,
      unsigned_abs r,
      record {
        first = nu.1;
        second = ns.1;
        third = nv.1;
        fourth = nr.1;
        parts = omega (arith, ints, parts, nu.0, ns.0, nv.0, nr.0);
        x = rw (nu.0, ns.0, nv.0, nr.0) x;
        y = rw (nu.0, ns.0, nv.0, nr.0) y;
      },
    )

moved : (x y z w : ℤ) → x -ℤ y ≡ z -ℤ w → neg_ℤ y +ℤ x ≡ z +ℤ neg_ℤ w
moved x y z w e = omega (arith, ints)

moved_back : (x y z w : ℤ) → x -ℤ y ≡ z -ℤ w → y +ℤ neg_ℤ x ≡ neg_ℤ z +ℤ w
moved_back x y z w e = omega (arith, ints)

below_turned : (z : ℤ) → z <ℤ pos 0 → pos 0 <ℤ neg_ℤ z
below_turned z h = omega (arith, ints)

parts_apart : (a b c d : Point) → side a b d -ℤ side a b c ≡ side c d a -ℤ side c d b
unfolding side
parts_apart a b c d = parts_same a.x a.y b.x b.y c.x c.y d.x d.y

x_apart : (a b c d : Point) → (side c d a *ℤ b.x) -ℤ (side c d b *ℤ a.x) ≡ (side a b d *ℤ c.x) -ℤ (side a b c *ℤ d.x)
unfolding side
x_apart a b c d = x_same a.x a.y b.x b.y c.x c.y d.x d.y

y_apart : (a b c d : Point) → (side c d a *ℤ b.y) -ℤ (side c d b *ℤ a.y) ≡ (side a b d *ℤ c.y) -ℤ (side a b c *ℤ d.y)
unfolding side
y_apart a b c d = y_same a.x a.y b.x b.y c.x c.y d.x d.y

common_left : (a b c d : Point) → side a b c <ℤ pos 0 → pos 0 <ℤ side a b d → pos 0 <ℤ side c d a → side c d b <ℤ pos 0 → HaveCommonPoint a b c d
common_left a b c d hc hd ha hb =
    weighed a b c d (neg_ℤ (side c d b)) (side c d a) (side a b d) (neg_ℤ (side a b c)) (below_turned _ hb) ha hd (below_turned _ hc)
    (moved (side c d a) (side c d b) (side a b d) (side a b c) (sym (parts_apart a b c d)))
    (rw (turned_product (side c d b) a.x, turned_product (side a b c) d.x) (moved (side c d a *ℤ b.x) (side c d b *ℤ a.x) (side a b d *ℤ c.x) (side a b c *ℤ d.x) (x_apart a b c d)))
    (rw (turned_product (side c d b) a.y, turned_product (side a b c) d.y) (moved (side c d a *ℤ b.y) (side c d b *ℤ a.y) (side a b d *ℤ c.y) (side a b c *ℤ d.y) (y_apart a b c d)))

common_right : (a b c d : Point) → pos 0 <ℤ side a b c → side a b d <ℤ pos 0 → side c d a <ℤ pos 0 → pos 0 <ℤ side c d b → HaveCommonPoint a b c d
common_right a b c d hc hd ha hb =
    weighed a b c d (side c d b) (neg_ℤ (side c d a)) (neg_ℤ (side a b d)) (side a b c) hb (below_turned _ ha) (below_turned _ hd) hc
    (moved_back (side c d a) (side c d b) (side a b d) (side a b c) (sym (parts_apart a b c d)))
    (rw (turned_product (side c d a) b.x, turned_product (side a b d) c.x) (moved_back (side c d a *ℤ b.x) (side c d b *ℤ a.x) (side a b d *ℤ c.x) (side a b c *ℤ d.x) (x_apart a b c d)))
    (rw (turned_product (side c d a) b.y, turned_product (side a b d) c.y) (moved_back (side c d a *ℤ b.y) (side c d b *ℤ a.y) (side a b d *ℤ c.y) (side a b c *ℤ d.y) (y_apart a b c d)))

clash : (m n k l : ℤ) → m -ℤ n ≡ k -ℤ l → pos 0 <ℤ m → n <ℤ pos 0 → k <ℤ pos 0 → pos 0 <ℤ l → ⊥
clash m n k l e h i j o = omega (arith, ints)

pub common_point : (a b c d : Point) → Crosses a b c d → HaveCommonPoint a b c d
common_point a b c d h = elim h.across_first [
  | inl first ↦ elim h.across_second [
    | inl second ↦ absurd (clash (side a b d) (side a b c) (side c d a) (side c d b) (parts_apart a b c d) first.1 first.0 second.0 second.1)
    | inr second ↦ common_left a b c d first.0 first.1 second.0 second.1
  ]
  | inr first ↦ elim h.across_second [
    | inl second ↦ common_right a b c d first.0 first.1 second.0 second.1
    | inr second ↦ absurd (clash (side c d a) (side c d b) (side a b d) (side a b c) (sym (parts_apart a b c d)) second.0 second.1 first.1 first.0)
  ]
]

-- ---- ranges

times_sum : (n : ℕ) (x y : ℤ) → pos n *ℤ (x +ℤ y) ≡ (pos n *ℤ x) +ℤ (pos n *ℤ y)
times_sum n x y = rep-same (rep-mul (rep-pos n) (rep-add (rep x) (rep y))) (rep-add (rep-mul (rep-pos n) (rep x)) (rep-mul (rep-pos n) (rep y))) (omega arith)

times_difference : (n : ℕ) (x y : ℤ) → pos n *ℤ (x -ℤ y) ≡ (pos n *ℤ x) -ℤ (pos n *ℤ y)
times_difference n x y = rep-same (rep-mul (rep-pos n) (rep-sub (rep x) (rep y))) (rep-sub (rep-mul (rep-pos n) (rep x)) (rep-mul (rep-pos n) (rep y))) (omega arith)

added : (a b c d i j k l : ℤ) → a +ℤ b ≡ c +ℤ d → i +ℤ j ≡ k +ℤ l → (a +ℤ i) +ℤ (b +ℤ j) ≡ (c +ℤ k) +ℤ (d +ℤ l)
added a b c d i j k l e f = omega (arith, ints)

subtracted : (a b c d i j k l : ℤ) → a +ℤ b ≡ c +ℤ d → i +ℤ j ≡ k +ℤ l → (a -ℤ i) +ℤ (b -ℤ j) ≡ (c -ℤ k) +ℤ (d -ℤ l)
subtracted a b c d i j k l e f = omega (arith, ints)

-- the common point's coordinate in a direction
pub balanced : (way : Direction) (a b c d : Point) (u s v r : ℕ) → CommonPoint a b c d u s v r → (pos u *ℤ coordinate way a) +ℤ (pos s *ℤ coordinate way b) ≡ (pos v *ℤ coordinate way c) +ℤ (pos r *ℤ coordinate way d)
balanced Longitude a b c d u s v r h = h.x
balanced Latitude a b c d u s v r h = h.y
balanced Rising a b c d u s v r h = rw (times_sum u a.x a.y, times_sum s b.x b.y, times_sum v c.x c.y, times_sum r d.x d.y) (added (pos u *ℤ a.x) (pos s *ℤ b.x) (pos v *ℤ c.x) (pos r *ℤ d.x) (pos u *ℤ a.y) (pos s *ℤ b.y) (pos v *ℤ c.y) (pos r *ℤ d.y) h.x h.y)
balanced Falling a b c d u s v r h = rw (times_difference u a.x a.y, times_difference s b.x b.y, times_difference v c.x c.y, times_difference r d.x d.y) (subtracted (pos u *ℤ a.x) (pos s *ℤ b.x) (pos v *ℤ c.x) (pos r *ℤ d.x) (pos u *ℤ a.y) (pos s *ℤ b.y) (pos v *ℤ c.y) (pos r *ℤ d.y) h.x h.y)

-- a mean of numbers at most m is at most m, one of numbers above m is above it
pub means_apart : (m a b c d : ℤ) (u s v r : ℕ) → 0 < v → u + s ≡ v + r → a ≤ℤ m → b ≤ℤ m → m <ℤ c → m <ℤ d → (pos u *ℤ a) +ℤ (pos s *ℤ b) ≡ (pos v *ℤ c) +ℤ (pos r *ℤ d) → ⊥
means_apart m a b c d u s v r some parts ha hb hc hd e =
    let from_a = multiple_le u a m ha in
    let from_b = multiple_le s b m hb in
    let from_c = multiple_le v (m +ℤ pos 1) c (next m c hc) in
    let from_d = multiple_le r (m +ℤ pos 1) d (next m d hd) in
    let low : (pos u *ℤ m) +ℤ (pos s *ℤ m) ≡ pos (u + s) *ℤ m = rep-same (rep-add (rep-mul (rep-pos u) (rep m)) (rep-mul (rep-pos s) (rep m))) (rep-mul (rep-pos (u + s)) (rep m)) (omega arith) in
    let high : (pos v *ℤ (m +ℤ pos 1)) +ℤ (pos r *ℤ (m +ℤ pos 1)) ≡ (pos (v + r) *ℤ m) +ℤ pos (v + r) = rep-same (rep-add (rep-mul (rep-pos v) (rep-add (rep m) (rep-pos 1))) (rep-mul (rep-pos r) (rep-add (rep m) (rep-pos 1)))) (rep-add (rep-mul (rep-pos (v + r)) (rep m)) (rep-pos (v + r))) (omega arith) in
    let same : pos (u + s) *ℤ m ≡ pos (v + r) *ℤ m = rw parts refl in
    let more : pos 0 <ℤ pos (v + r) = omega (arith, ints) in
    joined _ _ _ _ _ _ _ _ _ _ _ e from_a from_b from_c from_d low high same more where
      next : (m c : ℤ) → m <ℤ c → (m +ℤ pos 1) ≤ℤ c
      next m c h = omega (arith, ints)

      joined : (a b c d p q x y k l w : ℤ) → a +ℤ b ≡ c +ℤ d → a ≤ℤ p → b ≤ℤ q → x ≤ℤ c → y ≤ℤ d → p +ℤ q ≡ k → x +ℤ y ≡ l +ℤ w → k ≡ l → pos 0 <ℤ w → ⊥
      joined a b c d p q x y k l w e f g h i j o s t = omega (arith, ints)

ranges_apart : (way : Direction) (m : ℤ) (a b c d : Point) → coordinate way a ≤ℤ m → coordinate way b ≤ℤ m → m <ℤ coordinate way c → m <ℤ coordinate way d → ¬ Crosses a b c d
ranges_apart way m a b c d ha hb hc hd crossed = cut (common_point a b c d crossed) where
  cut : HaveCommonPoint a b c d → ⊥
  cut (u, s, v, r, h) = means_apart m _ _ _ _ u s v r h.third h.parts ha hb hc hd (balanced way a b c d u s v r h)

pub lines_apart : (way : Direction) (m : ℤ) (a c : Point) (rest more : List Point) (one other : Edge) → All (λ q. coordinate way q ≤ℤ m) (a ∷ rest) → All (λ q. m <ℤ coordinate way q) (c ∷ more) → Contains (edges_from a rest) one → Contains (edges_from c more) other → ¬ Crosses one.from one.to other.from other.to
lines_apart way m a c rest more one other low high has_one has_other =
    let first = ends_of_edge (λ q. coordinate way q ≤ℤ m) a rest one low has_one in
    let second = ends_of_edge (λ q. m <ℤ coordinate way q) c more other high has_other in
    ranges_apart way m one.from one.to other.from other.to first.0 first.1 second.0 second.1
