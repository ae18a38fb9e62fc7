-- A position near an edge is near the range of the edge's ends in each direction.
use Rattle.std.proofs.Common.{◌≡◌, ℕ, suc, ◌+◌, ◌-◌, ◌*◌, ◌<◌, ◌≤◌, ℤ, pos, negsuc, neg_ℤ, ◌+ℤ◌, ◌-ℤ◌, ◌*ℤ◌, ◌≤ℤ◌, ◌<ℤ◌, List, ◌∷◌, inl, inr, All, Any, subst, sym, ◌∙◌, refl, arith}
use Rattle.std.proofs.lemmas.Int.{ints, by_lt_z}
use Rattle.std.proofs.lemmas.Bool.{cases_lt}
use Rattle.venue_types.specs.declared.point.Point.{Point}
use Rattle.plane_exact.specs.Plane.{square}
use Rattle.plane_exact.specs.Segment.{IsNearEdge, ReachesAt}
use Rattle.plane_exact.specs.Figure.{edges_from, IsNearSome}
use Rattle.plane_trees.specs.Line.{Direction, Longitude, Latitude, Rising, Falling, coordinate, stretch}
use Rattle.plane_exact.proofs.PolynomialLemmas.{rep, rep-pos, rep-add, rep-sub, rep-mul, rep-same, multiple_le, le_of_multiple, square_not_negative}
use Rattle.plane_exact.proofs.NearLaw.{position_from_near}
use Rattle.plane_trees.proofs.LineLemmas.{edge_among}

-- ---- from squares to lengths

longer_square : (k j : ℕ) → ¬ ((k + suc j) * (k + suc j) ≤ k * k)
longer_square k j h = omega (arith, h)

square_le : (z k : ℕ) → z * z ≤ k * k → z ≤ k
square_le z k h = elim (cases_lt k z) [
  | inl less ↦ (let whole : z ≡ k + suc (z - k - 1) = omega (arith, less) in absurd (longer_square k (z - k - 1) (subst (λ (n : ℕ). n * n ≤ k * k) whole h)))
  | inr no_more ↦ no_more
]

-- a sum of squares within k * k: each number within k
pub within_square : (x y : ℤ) (k : ℕ) → ((x *ℤ x) +ℤ (y *ℤ y)) ≤ℤ pos (k * k) → (x ≤ℤ pos k) × (neg_ℤ x ≤ℤ pos k)
within_square (pos x) y k h =
    let other = square_not_negative y in
    let within : x ≤ k = square_le x k (omega (arith, ints)) in
    (omega (arith, ints), omega (arith, ints))
within_square (negsuc x) y k h =
    let other = square_not_negative y in
    let within : suc x ≤ k = square_le (suc x) k (omega (arith, ints)) in
    (omega (arith, ints), omega (arith, ints))

-- ---- the way from a part of the edge to the position

-- from the part m of m + k on the way from a to b, to p, m + k times
abbrev way_to : ℕ → ℕ → ℤ → ℤ → ℤ → ℤ
way_to m k p a b = (pos (m + k) *ℤ (p -ℤ a)) -ℤ (pos m *ℤ (b -ℤ a))

way_to-add : (m k : ℕ) (px ax bx py ay by : ℤ) → way_to m k (px +ℤ py) (ax +ℤ ay) (bx +ℤ by) ≡ way_to m k px ax bx +ℤ way_to m k py ay by
way_to-add m k px ax bx py ay by =
    let way = λ (p a b : ℤ). rep-sub (rep-mul (rep-pos (m + k)) (rep-sub (rep p) (rep a))) (rep-mul (rep-pos m) (rep-sub (rep b) (rep a))) in
    rep-same
    (rep-sub (rep-mul (rep-pos (m + k)) (rep-sub (rep-add (rep px) (rep py)) (rep-add (rep ax) (rep ay)))) (rep-mul (rep-pos m) (rep-sub (rep-add (rep bx) (rep by)) (rep-add (rep ax) (rep ay)))))
    (rep-add (way px ax bx) (way py ay by))
    (omega arith)

way_to-sub : (m k : ℕ) (px ax bx py ay by : ℤ) → way_to m k (px -ℤ py) (ax -ℤ ay) (bx -ℤ by) ≡ way_to m k px ax bx -ℤ way_to m k py ay by
way_to-sub m k px ax bx py ay by =
    let way = λ (p a b : ℤ). rep-sub (rep-mul (rep-pos (m + k)) (rep-sub (rep p) (rep a))) (rep-mul (rep-pos m) (rep-sub (rep b) (rep a))) in
    rep-same
    (rep-sub (rep-mul (rep-pos (m + k)) (rep-sub (rep-sub (rep px) (rep py)) (rep-sub (rep ax) (rep ay)))) (rep-mul (rep-pos m) (rep-sub (rep-sub (rep bx) (rep by)) (rep-sub (rep ax) (rep ay)))))
    (rep-sub (way px ax bx) (way py ay by))
    (omega arith)

parts_of : (m k : ℕ) (p a b : ℤ) → pos (m + k) *ℤ p ≡ ((pos k *ℤ a) +ℤ (pos m *ℤ b)) +ℤ way_to m k p a b
parts_of m k p a b =
    rep-same
    (rep-mul (rep-pos (m + k)) (rep p))
    (rep-add (rep-add (rep-mul (rep-pos k) (rep a)) (rep-mul (rep-pos m) (rep b))) (rep-sub (rep-mul (rep-pos (m + k)) (rep-sub (rep p) (rep a))) (rep-mul (rep-pos m) (rep-sub (rep b) (rep a)))))
    (omega arith)

-- ---- bounds, where the way is at most s in m + k parts

shared : (m k s : ℕ) (bound : ℤ) → ((pos k *ℤ bound) +ℤ (pos m *ℤ bound)) +ℤ pos ((m + k) * s) ≡ pos (m + k) *ℤ (bound +ℤ pos s)
shared m k s bound =
    rep-same
    (rep-add (rep-add (rep-mul (rep-pos k) (rep bound)) (rep-mul (rep-pos m) (rep bound))) (rep-pos ((m + k) * s)))
    (rep-mul (rep-pos (m + k)) (rep-add (rep bound) (rep-pos s)))
    (omega arith)

at_most : (m k s : ℕ) (p a b bound : ℤ) → 0 < m + k → way_to m k p a b ≤ℤ pos ((m + k) * s) → a ≤ℤ bound → b ≤ℤ bound → p ≤ℤ (bound +ℤ pos s)
at_most m k s p a b bound some way h l =
    let first = multiple_le k a bound h in
    let second = multiple_le m b bound l in
    let whole = parts_of m k p a b in
    let limit = shared m k s bound in
    le_of_multiple (m + k) p (bound +ℤ pos s) some (joined _ _ _ _ _ _ _ _ whole limit first second way) where
      joined : (x y a b c d w z : ℤ) → x ≡ (a +ℤ b) +ℤ w → (c +ℤ d) +ℤ z ≡ y → a ≤ℤ c → b ≤ℤ d → w ≤ℤ z → x ≤ℤ y
      joined x y a b c d w z e f h k l = omega (arith, ints)

at_least : (m k s : ℕ) (p a b bound : ℤ) → 0 < m + k → neg_ℤ (way_to m k p a b) ≤ℤ pos ((m + k) * s) → bound ≤ℤ a → bound ≤ℤ b → bound ≤ℤ (p +ℤ pos s)
at_least m k s p a b bound some way h l =
    let first = multiple_le k bound a h in
    let second = multiple_le m bound b l in
    let whole = parts_of m k p a b in
    le_of_multiple (m + k) bound (p +ℤ pos s) some (joined _ _ _ _ _ _ _ _ _ whole (apart m k bound) (more m k s p) first second way) where
      apart : (m k : ℕ) (bound : ℤ) → pos (m + k) *ℤ bound ≡ (pos k *ℤ bound) +ℤ (pos m *ℤ bound)
      apart m k bound = rep-same (rep-mul (rep-pos (m + k)) (rep bound)) (rep-add (rep-mul (rep-pos k) (rep bound)) (rep-mul (rep-pos m) (rep bound))) (omega arith)

      more : (m k s : ℕ) (p : ℤ) → pos (m + k) *ℤ (p +ℤ pos s) ≡ (pos (m + k) *ℤ p) +ℤ pos ((m + k) * s)
      more m k s p = rep-same (rep-mul (rep-pos (m + k)) (rep-add (rep p) (rep-pos s))) (rep-add (rep-mul (rep-pos (m + k)) (rep p)) (rep-pos ((m + k) * s))) (omega arith)

      joined : (x y p a b c d w z : ℤ) → p ≡ (a +ℤ b) +ℤ w → x ≡ c +ℤ d → y ≡ p +ℤ z → c ≤ℤ a → d ≤ℤ b → neg_ℤ w ≤ℤ z → x ≤ℤ y
      joined x y p a b c d w z e f g h k l = omega (arith, ints)

-- ---- in each direction

-- the number and its negative are at most the bound
abbrev IsWithinSize : ℕ → ℤ → Type 0
IsWithinSize bound z = (z ≤ℤ pos bound) × (neg_ℤ z ≤ℤ pos bound)

once : (n t : ℕ) (z : ℤ) → IsWithinSize (n * t) z → IsWithinSize (n * (1 * t)) z
once n t z h = (omega (arith, ints, h.0), omega (arith, ints, h.1))

sum_within : (n t : ℕ) (x y z : ℤ) → z ≡ x +ℤ y → IsWithinSize (n * t) x → IsWithinSize (n * t) y → IsWithinSize (n * (2 * t)) z
sum_within n t x y z e h k = (omega (arith, ints, h.0, k.0), omega (arith, ints, h.1, k.1))

difference_within : (n t : ℕ) (x y z : ℤ) → z ≡ x -ℤ y → IsWithinSize (n * t) x → IsWithinSize (n * t) y → IsWithinSize (n * (2 * t)) z
difference_within n t x y z e h k = (omega (arith, ints, h.0, k.1), omega (arith, ints, h.1, k.0))

regrouped : (n t : ℕ) → (n * n) * (t * t) ≡ (n * t) * (n * t)
regrouped n t = omega arith

swapped : (x y z : ℤ) → (x +ℤ y) ≤ℤ z → (y +ℤ x) ≤ℤ z
swapped x y z h = omega (arith, ints)

ways_within : (p a b : Point) (t m k : ℕ) → ReachesAt p a b t m (m + k) → IsWithinSize ((m + k) * t) (way_to m k p.x a.x b.x) × IsWithinSize ((m + k) * t) (way_to m k p.y a.y b.y)
unfolding square
ways_within p a b t m k h =
    let x = way_to m k p.x a.x b.x in
    let y = way_to m k p.y a.y b.y in
    let n = m + k in
    let both : ((x *ℤ x) +ℤ (y *ℤ y)) ≤ℤ pos ((n * t) * (n * t)) = subst (λ (i : ℕ). ((x *ℤ x) +ℤ (y *ℤ y)) ≤ℤ pos i) (regrouped n t) h.reach in
    (within_square x y (n * t) both, within_square y x (n * t) (swapped (x *ℤ x) (y *ℤ y) (pos ((n * t) * (n * t))) both))

way_within : (way : Direction) (p a b : Point) (t m k : ℕ) → ReachesAt p a b t m (m + k) → IsWithinSize ((m + k) * (stretch way * t)) (way_to m k (coordinate way p) (coordinate way a) (coordinate way b))
way_within Longitude p a b t m k h = once (m + k) t _ (ways_within p a b t m k h).0
way_within Latitude p a b t m k h = once (m + k) t _ (ways_within p a b t m k h).1
way_within Rising p a b t m k h = sum_within (m + k) t _ _ _ (way_to-add m k p.x a.x b.x p.y a.y b.y) (ways_within p a b t m k h).0 (ways_within p a b t m k h).1
way_within Falling p a b t m k h = difference_within (m + k) t _ _ _ (way_to-sub m k p.x a.x b.x p.y a.y b.y) (ways_within p a b t m k h).0 (ways_within p a b t m k h).1

-- a position of the edge is some parts of it
abbrev Reached : (p a b : Point) (t : ℕ) → Type 0
Reached p a b t = (m k : ℕ) × (0 < m + k) × ReachesAt p a b t m (m + k)

reached : (p a b : Point) (t : ℕ) → IsNearEdge p a b t → Reached p a b t
reached p a b t h = cut p a b t (position_from_near p a b t h) where
  cut : (p a b : Point) (t : ℕ) → (m n : ℕ) × (0 < n) × (m ≤ n) × ReachesAt p a b t m n → Reached p a b t
  cut p a b t (m, n, some, part, at) =
      let whole : n ≡ m + (n - m) = omega arith in
      (m, n - m, omega arith, subst (λ (i : ℕ). ReachesAt p a b t m i) whole at)

near_at_most : (way : Direction) (bound : ℤ) (p a b : Point) (t : ℕ) → coordinate way a ≤ℤ bound → coordinate way b ≤ℤ bound → IsNearEdge p a b t → coordinate way p ≤ℤ (bound +ℤ pos (stretch way * t))
near_at_most way bound p a b t h l near = from (reached p a b t near) where
  from : Reached p a b t → coordinate way p ≤ℤ (bound +ℤ pos (stretch way * t))
  from (m, k, some, at) = at_most m k (stretch way * t) (coordinate way p) (coordinate way a) (coordinate way b) bound some (way_within way p a b t m k at).0 h l

near_at_least : (way : Direction) (bound : ℤ) (p a b : Point) (t : ℕ) → bound ≤ℤ coordinate way a → bound ≤ℤ coordinate way b → IsNearEdge p a b t → bound ≤ℤ (coordinate way p +ℤ pos (stretch way * t))
near_at_least way bound p a b t h l near = from (reached p a b t near) where
  from : Reached p a b t → bound ≤ℤ (coordinate way p +ℤ pos (stretch way * t))
  from (m, k, some, at) = at_least m k (stretch way * t) (coordinate way p) (coordinate way a) (coordinate way b) bound some (way_within way p a b t m k at).1 h l

pub line_at_most : (way : Direction) (bound : ℤ) (p a : Point) (rest : List Point) (t : ℕ) → All (λ q. coordinate way q ≤ℤ bound) (a ∷ rest) → IsNearSome p t (edges_from a rest) → coordinate way p ≤ℤ (bound +ℤ pos (stretch way * t))
line_at_most way bound p a rest t all near = edge_among (λ q. coordinate way q ≤ℤ bound) (λ x y. IsNearEdge p x y t) _ (λ x y h l n. near_at_most way bound p x y t h l n) a rest all near

pub line_at_least : (way : Direction) (bound : ℤ) (p a : Point) (rest : List Point) (t : ℕ) → All (λ q. bound ≤ℤ coordinate way q) (a ∷ rest) → IsNearSome p t (edges_from a rest) → bound ≤ℤ (coordinate way p +ℤ pos (stretch way * t))
line_at_least way bound p a rest t all near = edge_among (λ q. bound ≤ℤ coordinate way q) (λ x y. IsNearEdge p x y t) _ (λ x y h l n. near_at_least way bound p x y t h l n) a rest all near
