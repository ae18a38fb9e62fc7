-- Numbers of which all are taken n times: their order stays.
use Rattle.std.proofs.Common.{◌≡◌, ℕ, ◌*◌, ◌<◌, ℤ, pos, ◌+ℤ◌, ◌-ℤ◌, ◌*ℤ◌, ◌≤ℤ◌, ◌<ℤ◌, ◌↔◌, inl, inr, ap₂, sym, ◌∙◌, zero, suc, arith}
use mathlib.Core.Path.{subst₂}
use Rattle.std.proofs.lemmas.Int.{ints, by_lt_z}
use lib.Signed.{clash_ℤ}
use Rattle.venue_types.specs.declared.point.Point.{Point}
use Rattle.plane_exact.specs.Plane.{side, along, squared_distance, square}
use Rattle.plane_exact.specs.Segment.{Crosses, HaveOppositeSigns, IsNearEdge}
use Rattle.plane_exact.specs.Scaled.{times}
use Rattle.plane_exact.specs.Sight.{OnOpenSegment}
use Rattle.plane_exact.proofs.PolynomialLemmas.{rep, rep-pos, rep-add, rep-sub, rep-mul, rep-same, multiple_le, le_of_multiple}

-- ---- order

-- m is n times z
pub record IsTimes (n : ℕ) (z m : ℤ) : Type 0 where
  pub some : 0 < n
  pub is : m ≡ pos n *ℤ z

pub IsTimes-zero : (n : ℕ) → 0 < n → IsTimes n (pos 0) (pos 0)
IsTimes-zero n h = record { some = h; is = omega (arith, ints) }

pub times_le : (n : ℕ) (x y u v : ℤ) → IsTimes n x u → IsTimes n y v → (u ≤ℤ v) ↔ (x ≤ℤ y)
times_le n x y u v f g = (λ h. le_of_multiple n x y f.some (subst₂ (λ (i j : ℤ). i ≤ℤ j) f.is g.is h), λ h. subst₂ (λ (i j : ℤ). i ≤ℤ j) (sym f.is) (sym g.is) (multiple_le n x y h))

pub times_lt : (n : ℕ) (x y u v : ℤ) → IsTimes n x u → IsTimes n y v → (u <ℤ v) ↔ (x <ℤ y)
times_lt n x y u v f g = (λ h. by_lt_z x y (λ k. k) (λ k. clash_ℤ h ((times_le n y x v u g f).1 k)), λ h. by_lt_z u v (λ k. k) (λ k. clash_ℤ h ((times_le n y x v u g f).0 k)))

pub times_zero : (n : ℕ) (x u : ℤ) → IsTimes n x u → (u ≡ pos 0) ↔ (x ≡ pos 0)
times_zero n x u f =
    let zero_too = IsTimes-zero n f.some in
    let above = times_le n x (pos 0) u (pos 0) f zero_too in
    let below = times_le n (pos 0) x (pos 0) u zero_too f in
    (λ e. same x (above.0 (le_same u e)) (below.0 (same_le u e)), λ e. same u (above.1 (le_same x e)) (below.1 (same_le x e))) where
      le_same : (z : ℤ) → z ≡ pos 0 → z ≤ℤ pos 0
      le_same z e = omega (arith, ints)

      same_le : (z : ℤ) → z ≡ pos 0 → pos 0 ≤ℤ z
      same_le z e = omega (arith, ints)

      same : (z : ℤ) → z ≤ℤ pos 0 → pos 0 ≤ℤ z → z ≡ pos 0
      same z h k = omega (arith, ints)

pub times_opposite : (n : ℕ) (x y u v : ℤ) → IsTimes n x u → IsTimes n y v → HaveOppositeSigns u v ↔ HaveOppositeSigns x y
times_opposite n x y u v f g =
    let z = IsTimes-zero n f.some in
    let x_below = times_lt n x (pos 0) u (pos 0) f z in
    let x_above = times_lt n (pos 0) x (pos 0) u z f in
    let y_below = times_lt n y (pos 0) v (pos 0) g z in
    let y_above = times_lt n (pos 0) y (pos 0) v z g in (
      λ s. elim s [ inl h ↦ inl (x_below.0 h.0, y_above.0 h.1) | inr h ↦ inr (x_above.0 h.0, y_below.0 h.1) ],
      λ s. elim s [ inl h ↦ inl (x_below.1 h.0, y_above.1 h.1) | inr h ↦ inr (x_above.1 h.0, y_below.1 h.1) ],
    )

-- ---- products of differences

some_square : (k : ℕ) → 0 < k → 0 < k * k
some_square zero h = absurd (omega (arith, h))
some_square (suc k) h = omega arith

-- a difference of two of the numbers
step : (k : ℕ) (m n : ℤ) → (pos k *ℤ n) -ℤ (pos k *ℤ m) ≡ pos k *ℤ (n -ℤ m)
step k m n = rep-same (rep-sub (rep-mul (rep-pos k) (rep n)) (rep-mul (rep-pos k) (rep m))) (rep-mul (rep-pos k) (rep-sub (rep n) (rep m))) (omega arith)

difference_of_products : (k : ℕ) (a b c d : ℤ) → ((pos k *ℤ a) *ℤ (pos k *ℤ b)) -ℤ ((pos k *ℤ c) *ℤ (pos k *ℤ d)) ≡ pos (k * k) *ℤ ((a *ℤ b) -ℤ (c *ℤ d))
difference_of_products k a b c d =
    let kk = rep-pos k in
    rep-same (rep-sub (rep-mul (rep-mul kk (rep a)) (rep-mul kk (rep b))) (rep-mul (rep-mul kk (rep c)) (rep-mul kk (rep d)))) (rep-mul (rep-pos (k * k)) (rep-sub (rep-mul (rep a) (rep b)) (rep-mul (rep c) (rep d)))) (omega arith)

sum_of_products : (k : ℕ) (a b c d : ℤ) → ((pos k *ℤ a) *ℤ (pos k *ℤ b)) +ℤ ((pos k *ℤ c) *ℤ (pos k *ℤ d)) ≡ pos (k * k) *ℤ ((a *ℤ b) +ℤ (c *ℤ d))
sum_of_products k a b c d =
    let kk = rep-pos k in
    rep-same (rep-add (rep-mul (rep-mul kk (rep a)) (rep-mul kk (rep b))) (rep-mul (rep-mul kk (rep c)) (rep-mul kk (rep d)))) (rep-mul (rep-pos (k * k)) (rep-add (rep-mul (rep a) (rep b)) (rep-mul (rep c) (rep d)))) (omega arith)

pub times_side : (k : ℕ) (a b p : Point) → 0 < k → IsTimes (k * k) (side a b p) (side (times k a) (times k b) (times k p))
unfolding side
times_side k a b p h = record {
  some = some_square k h;
  is = ap₂ ◌-ℤ◌ (ap₂ ◌*ℤ◌ (step k a.x b.x) (step k a.y p.y)) (ap₂ ◌*ℤ◌ (step k a.y b.y) (step k a.x p.x)) ∙ difference_of_products k (b.x -ℤ a.x) (p.y -ℤ a.y) (b.y -ℤ a.y) (p.x -ℤ a.x);
}

pub times_along : (k : ℕ) (a b p : Point) → 0 < k → IsTimes (k * k) (along a b p) (along (times k a) (times k b) (times k p))
unfolding along
times_along k a b p h = record {
  some = some_square k h;
  is = ap₂ ◌+ℤ◌ (ap₂ ◌*ℤ◌ (step k a.x b.x) (step k a.x p.x)) (ap₂ ◌*ℤ◌ (step k a.y b.y) (step k a.y p.y)) ∙ sum_of_products k (b.x -ℤ a.x) (p.x -ℤ a.x) (b.y -ℤ a.y) (p.y -ℤ a.y);
}

pub times_distance : (k : ℕ) (a b : Point) → 0 < k → IsTimes (k * k) (squared_distance a b) (squared_distance (times k a) (times k b))
unfolding squared_distance square
times_distance k a b h = record {
  some = some_square k h;
  is = ap₂ ◌+ℤ◌ (ap₂ ◌*ℤ◌ (step k a.x b.x) (step k a.x b.x)) (ap₂ ◌*ℤ◌ (step k a.y b.y) (step k a.y b.y)) ∙ sum_of_products k (b.x -ℤ a.x) (b.x -ℤ a.x) (b.y -ℤ a.y) (b.y -ℤ a.y);
}

pub times_tolerance : (k t : ℕ) → 0 < k → IsTimes (k * k) (pos (t * t)) (pos ((k * t) * (k * t)))
times_tolerance k t h = record { some = some_square k h; is = rep-same (rep-pos ((k * t) * (k * t))) (rep-mul (rep-pos (k * k)) (rep-pos (t * t))) (omega arith) }

-- of squares of such numbers, and of products of two
IsTimes-product : (n : ℕ) (x y u v : ℤ) → IsTimes n x u → IsTimes n y v → IsTimes (n * n) (x *ℤ y) (u *ℤ v)
IsTimes-product n x y u v f g = record {
  some = some_square n f.some;
  is = ap₂ ◌*ℤ◌ f.is g.is ∙ rep-same (rep-mul (rep-mul (rep-pos n) (rep x)) (rep-mul (rep-pos n) (rep y))) (rep-mul (rep-pos (n * n)) (rep-mul (rep x) (rep y))) (omega arith);
}

IsTimes-square : (n : ℕ) (x u : ℤ) → IsTimes n x u → IsTimes (n * n) (square x) (square u)
unfolding square
IsTimes-square n x u f = IsTimes-product n x x u u f f

-- ---- the predicates

pub times_crossing : (k : ℕ) (a b c d : Point) → 0 < k → Crosses (times k a) (times k b) (times k c) (times k d) ↔ Crosses a b c d
times_crossing k a b c d h =
    let first = times_opposite (k * k) _ _ _ _ (times_side k a b c h) (times_side k a b d h) in
    let second = times_opposite (k * k) _ _ _ _ (times_side k c d a h) (times_side k c d b h) in
    (λ s. record { across_first = first.0 s.across_first; across_second = second.0 s.across_second }, λ s. record { across_first = first.1 s.across_first; across_second = second.1 s.across_second })

pub times_open_segment : (k : ℕ) (a b v : Point) → 0 < k → OnOpenSegment (times k a) (times k b) (times k v) ↔ OnOpenSegment a b v
times_open_segment k a b v h =
    let line = times_zero (k * k) _ _ (times_side k a b v h) in
    let start = times_lt (k * k) _ _ _ _ (IsTimes-zero (k * k) (some_square k h)) (times_along k a b v h) in
    let end = times_lt (k * k) _ _ _ _ (times_along k a b v h) (times_distance k a b h) in
    (λ s. record { on_line = line.0 s.on_line; beyond_start = start.0 s.beyond_start; before_end = end.0 s.before_end }, λ s. record { on_line = line.1 s.on_line; beyond_start = start.1 s.beyond_start; before_end = end.1 s.before_end })

pub times_near_point : (k t : ℕ) (a v : Point) → 0 < k → (squared_distance (times k a) (times k v) ≤ℤ pos ((k * t) * (k * t))) ↔ (squared_distance a v ≤ℤ pos (t * t))
times_near_point k t a v h = times_le (k * k) _ _ _ _ (times_distance k a v h) (times_tolerance k t h)

pub times_near_edge : (k t : ℕ) (p a b : Point) → 0 < k → IsNearEdge (times k p) (times k a) (times k b) (k * t) ↔ IsNearEdge p a b t
times_near_edge k t p a b h =
    let z = IsTimes-zero (k * k) (some_square k h) in
    let s = times_along k a b p h in
    let d = times_distance k a b h in
    let back = times_le (k * k) _ _ _ _ s z in
    let on = times_lt (k * k) _ _ _ _ z s in
    let past = times_le (k * k) _ _ _ _ d s in
    let within = times_lt (k * k) _ _ _ _ s d in
    let near_start = times_near_point k t a p h in
    let near_end = times_near_point k t b p h in
    let near_line = times_le ((k * k) * (k * k)) _ _ _ _ (IsTimes-square (k * k) _ _ (times_side k a b p h)) (IsTimes-product (k * k) _ _ _ _ (times_tolerance k t h) d) in (
      λ n. record { before = λ i. near_start.0 (n.before (back.1 i)); beyond = λ i j. near_end.0 (n.beyond (on.1 i) (past.1 j)); beside = λ i j. near_line.0 (n.beside (on.1 i) (within.1 j)) },
      λ n. record { before = λ i. near_start.1 (n.before (back.0 i)); beyond = λ i j. near_end.1 (n.beyond (on.0 i) (past.0 j)); beside = λ i j. near_line.1 (n.beside (on.0 i) (within.0 j)) },
    )
