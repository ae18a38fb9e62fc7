-- What lies near an edge lies near the line through it.
use Rattle.std.proofs.Common.{◌≡◌, ℕ, zero, suc, ◌+◌, ◌*◌, ◌<◌, ◌≤◌, ℤ, pos, negsuc, neg_ℤ, ◌+ℤ◌, ◌-ℤ◌, ◌*ℤ◌, ◌≤ℤ◌, [], ◌∷◌, All, unsigned_abs, FitsSigned, to_z, of_z, w64, lit<, refl, subst, arith}
use Rattle.std.proofs.lemmas.Int.{ints}
use Rattle.std.proofs.lemmas.List.Elements.{All-nil, All-cons}
use Rattle.venue_types.specs.declared.point.Point.{Point}
use Rattle.plane_exact.specs.Plane.{IsWithin, square}
use Rattle.plane_exact.specs.Segment.{IsNearEdge, ReachesAt}
use Rattle.plane_exact.specs.Figure.{edges_from, IsNearSome}
use Rattle.plane_trees.specs.Line.{Longitude, Latitude, coordinate}
use Rattle.plane_exact.proofs.NumberLemmas.{IsWithin-mul, fits_from_IsWithin, read_back, product_of}
use Rattle.plane_exact.proofs.PolynomialLemmas.{cross, cross_of_rest, multiple_le, le_of_multiple, rep, rep-pos, rep-add, rep-sub, rep-mul, rep-same}
use Rattle.plane_exact.proofs.NearLaw.{position_from_near}
use Rattle.plane_trees.proofs.NearLineLemmas.{within_square, line_at_least, line_at_most}

-- a number is within its size
own_size : (d : ℤ) → IsWithin (unsigned_abs d) d (pos 0)
own_size d = omega (arith, ints)

regrouped : (n t : ℕ) → (n * n) * (t * t) ≡ (n * t) * (n * t)
regrouped n t = omega arith

-- from n times both products
apart_by : (dx dy qx qy vx vy : ℤ) (n t : ℕ) → 0 < n → cross dx dy vx vy ≡ pos n *ℤ cross dx dy qx qy → IsWithin (n * t) vx (pos 0) → IsWithin (n * t) vy (pos 0) → IsWithin (t * (unsigned_abs dx + unsigned_abs dy)) (dx *ℤ qy) (dy *ℤ qx)
apart_by dx dy qx qy vx vy n t some whole x y =
    let up = IsWithin-mul dx vy (unsigned_abs dx) (n * t) (own_size dx) y in
    let right = IsWithin-mul dy vx (unsigned_abs dy) (n * t) (own_size dy) x in
    let limit : unsigned_abs dx * (n * t) + unsigned_abs dy * (n * t) ≡ n * (t * (unsigned_abs dx + unsigned_abs dy)) = omega arith in
    let bound = t * (unsigned_abs dx + unsigned_abs dy) in
    let split = apart_of n (dx *ℤ qy) (dy *ℤ qx) in
    record {
      above = le_of_multiple n (dx *ℤ qy) ((dy *ℤ qx) +ℤ pos bound) some (higher _ _ _ _ _ _ _ _ _ whole split (with_bound n bound (dy *ℤ qx)) limit up right);
      below = le_of_multiple n (dy *ℤ qx) ((dx *ℤ qy) +ℤ pos bound) some (lower _ _ _ _ _ _ _ _ _ whole split (with_bound n bound (dx *ℤ qy)) limit up right);
    } where
      apart_of : (n : ℕ) (u r : ℤ) → pos n *ℤ (u -ℤ r) ≡ (pos n *ℤ u) -ℤ (pos n *ℤ r)
      apart_of n u r = rep-same (rep-mul (rep-pos n) (rep-sub (rep u) (rep r))) (rep-sub (rep-mul (rep-pos n) (rep u)) (rep-mul (rep-pos n) (rep r))) (omega arith)

      with_bound : (n bound : ℕ) (r : ℤ) → pos n *ℤ (r +ℤ pos bound) ≡ (pos n *ℤ r) +ℤ pos (n * bound)
      with_bound n bound r = rep-same (rep-mul (rep-pos n) (rep-add (rep r) (rep-pos bound))) (rep-add (rep-mul (rep-pos n) (rep r)) (rep-pos (n * bound))) (omega arith)

      -- u and r differ by f - g, whose parts are within i and j
      higher : (f g e u r w : ℤ) (i j k : ℕ) → f -ℤ g ≡ e → e ≡ u -ℤ r → w ≡ r +ℤ pos k → i + j ≡ k → IsWithin i f (pos 0) → IsWithin j g (pos 0) → u ≤ℤ w
      higher f g e u r w i j k h l m o a b = omega (arith, ints, a.above, b.below)

      lower : (f g e u r w : ℤ) (i j k : ℕ) → f -ℤ g ≡ e → e ≡ u -ℤ r → w ≡ u +ℤ pos k → i + j ≡ k → IsWithin i f (pos 0) → IsWithin j g (pos 0) → r ≤ℤ w
      lower f g e u r w i j k h l m o a b = omega (arith, ints, a.below, b.above)

near_products : (p a b : Point) (t : ℕ) → (m n : ℕ) × (0 < n) × (m ≤ n) × ReachesAt p a b t m n → IsWithin (t * (unsigned_abs (b.x -ℤ a.x) + unsigned_abs (b.y -ℤ a.y))) ((b.x -ℤ a.x) *ℤ (p.y -ℤ a.y)) ((b.y -ℤ a.y) *ℤ (p.x -ℤ a.x))
unfolding square
near_products p a b t (m, n, some, part, at) =
    let vx = (pos n *ℤ (p.x -ℤ a.x)) -ℤ (pos m *ℤ (b.x -ℤ a.x)) in
    let vy = (pos n *ℤ (p.y -ℤ a.y)) -ℤ (pos m *ℤ (b.y -ℤ a.y)) in
    let both : ((vx *ℤ vx) +ℤ (vy *ℤ vy)) ≤ℤ pos ((n * t) * (n * t)) = subst (λ (i : ℕ). ((vx *ℤ vx) +ℤ (vy *ℤ vy)) ≤ℤ pos i) (regrouped n t) at.reach in
    let x = within_square vx vy (n * t) both in
    let y = within_square vy vx (n * t) (swapped (vx *ℤ vx) (vy *ℤ vy) (pos ((n * t) * (n * t))) both) in
    apart_by (b.x -ℤ a.x) (b.y -ℤ a.y) (p.x -ℤ a.x) (p.y -ℤ a.y) vx vy n t some (cross_of_rest (b.x -ℤ a.x) (b.y -ℤ a.y) (p.x -ℤ a.x) (p.y -ℤ a.y) m n) (sized vx (n * t) x.0 x.1) (sized vy (n * t) y.0 y.1) where
      swapped : (x y z : ℤ) → (x +ℤ y) ≤ℤ z → (y +ℤ x) ≤ℤ z
      swapped x y z h = omega (arith, ints)

      sized : (v : ℤ) (s : ℕ) → v ≤ℤ pos s → neg_ℤ v ≤ℤ pos s → IsWithin s v (pos 0)
      sized v s h k = omega (arith, ints)

-- the two products whose difference is the side
pub side_within : (p a b : Point) (t : ℕ) → IsNearEdge p a b t → IsWithin (t * (unsigned_abs (b.x -ℤ a.x) + unsigned_abs (b.y -ℤ a.y))) ((b.x -ℤ a.x) *ℤ (p.y -ℤ a.y)) ((b.y -ℤ a.y) *ℤ (p.x -ℤ a.x))
side_within p a b t near = near_products p a b t (position_from_near p a b t near)

-- ---- products of numbers that lie within 800,000,000

pub product_within : (d n : ℤ) → IsWithin 800000000 d (pos 0) → IsWithin 800000000 n (pos 0) → IsWithin 640000000000000000 (d *ℤ n) (pos 0)
product_within d n h k = IsWithin-mul d n 800000000 800000000 h k

pub read_product : (d n : ℤ) → IsWithin 800000000 d (pos 0) → IsWithin 800000000 n (pos 0) → to_z w64 (of_z w64 (to_z w64 (of_z w64 d) *ℤ to_z w64 (of_z w64 n))) ≡ d *ℤ n
read_product d n h k = read_back w64 _ (d *ℤ n) (product_of _ d n refl h k) (fits_from_IsWithin 640000000000000000 (d *ℤ n) (product_within d n h k) (lit< tt))

pub times_up : (d x y : ℤ) → pos 0 ≤ℤ d → x ≤ℤ y → (d *ℤ x) ≤ℤ (d *ℤ y)
times_up (pos n) x y h k = multiple_le n x y k
times_up (negsuc n) x y h k = absurd (omega (arith, ints, h))

pub times_down : (d x y : ℤ) → d ≤ℤ pos 0 → x ≤ℤ y → (d *ℤ y) ≤ℤ (d *ℤ x)
times_down (pos zero) x y h k = omega (arith, ints)
times_down (pos (suc n)) x y h k = absurd (omega (arith, ints, h))
times_down (negsuc n) x y h k = let more = multiple_le (suc n) x y k in omega (arith, ints, more)

-- ---- numbers as the code reads them back

abbrev Back : ℤ → ℤ
Back n = to_z w64 (of_z w64 n)

pub exact_read : (from to r : ℤ) → FitsSigned w64 from → FitsSigned w64 to → FitsSigned w64 r → (IsWithin 800000000 (Back from) (Back to) → r ≡ Back to -ℤ Back from) → IsWithin 800000000 from to → Back r ≡ to -ℤ from
exact_read from to r f g h exact close = let e = exact (record { above = omega (arith, ints, close.above); below = omega (arith, ints, close.below) }) in omega (arith, ints)

pub above_read : (from to r n : ℤ) → FitsSigned w64 from → FitsSigned w64 to → FitsSigned w64 r → ((n : ℤ) → IsWithin 800000000 (Back from) n → n ≤ℤ Back to → (n -ℤ Back from) ≤ℤ r) → IsWithin 800000000 from n → n ≤ℤ to → (n -ℤ from) ≤ℤ Back r
above_read from to r n f g h above close less = let e = above n (record { above = omega (arith, ints, close.above); below = omega (arith, ints, close.below) }) (omega (arith, ints)) in omega (arith, ints)

pub below_read : (from to r n : ℤ) → FitsSigned w64 from → FitsSigned w64 to → FitsSigned w64 r → ((n : ℤ) → IsWithin 800000000 (Back from) n → Back to ≤ℤ n → r ≤ℤ (n -ℤ Back from)) → IsWithin 800000000 from n → to ≤ℤ n → Back r ≤ℤ (n -ℤ from)
below_read from to r n f g h below close more = let e = below n (record { above = omega (arith, ints, close.above); below = omega (arith, ints, close.below) }) (omega (arith, ints)) in omega (arith, ints)

-- two ranges come within the slack of each other where two numbers in them do
pub in_order : (least u r greatest s : ℤ) (k : ℕ) → FitsSigned w64 least → FitsSigned w64 greatest → FitsSigned w64 s → least ≤ℤ u → u ≤ℤ (r +ℤ pos k) → r ≤ℤ greatest → s ≡ pos k → Back least ≤ℤ (Back greatest +ℤ Back s)
in_order least u r greatest s k f g h l m n e = omega (arith, ints)

pub overlap_read : {R : Type 0} (a b least greatest n : ℤ) (t : ℕ) → FitsSigned w64 a → FitsSigned w64 b → FitsSigned w64 least → FitsSigned w64 greatest
    → ((n : ℤ) → Back least ≤ℤ n → n ≤ℤ Back greatest → ((bound : ℤ) → bound ≤ℤ Back a → bound ≤ℤ Back b → bound ≤ℤ (n +ℤ pos t)) → ((bound : ℤ) → Back a ≤ℤ bound → Back b ≤ℤ bound → n ≤ℤ (bound +ℤ pos t)) → R)
    → least ≤ℤ n → n ≤ℤ greatest → ((bound : ℤ) → bound ≤ℤ a → bound ≤ℤ b → bound ≤ℤ (n +ℤ pos t)) → ((bound : ℤ) → a ≤ℤ bound → b ≤ℤ bound → n ≤ℤ (bound +ℤ pos t)) → R
overlap_read a b least greatest n t f g h k overlap from to low high =
    overlap n (omega (arith, ints, from)) (omega (arith, ints, to))
    (λ bound l m. low bound (omega (arith, ints, l)) (omega (arith, ints, m)))
    (λ bound l m. high bound (omega (arith, ints, l)) (omega (arith, ints, m)))

-- ---- in each direction

once : (x y : ℤ) (t : ℕ) → x ≤ℤ (y +ℤ pos (1 * t)) → x ≤ℤ (y +ℤ pos t)
once x y t h = omega (arith, ints, h)

-- the edge as a line of one edge
near_some : (p a b : Point) (t : ℕ) → IsNearEdge p a b t → IsNearSome p t (edges_from a (b ∷ []))
near_some p a b t near = (0, record { from = a; to = b }, omega arith, refl, near)

both : (P : Point → Type 0) (a b : Point) → P a → P b → All P (a ∷ b ∷ [])
both P a b h k = All-cons P a (b ∷ []) h (All-cons P b [] k (All-nil P))

pub least_x : (p a b : Point) (t : ℕ) → IsNearEdge p a b t → (bound : ℤ) → bound ≤ℤ a.x → bound ≤ℤ b.x → bound ≤ℤ (p.x +ℤ pos t)
least_x p a b t near bound h k = once bound p.x t (line_at_least Longitude bound p a (b ∷ []) t (both (λ q. bound ≤ℤ coordinate Longitude q) a b h k) (near_some p a b t near))

pub greatest_x : (p a b : Point) (t : ℕ) → IsNearEdge p a b t → (bound : ℤ) → a.x ≤ℤ bound → b.x ≤ℤ bound → p.x ≤ℤ (bound +ℤ pos t)
greatest_x p a b t near bound h k = once p.x bound t (line_at_most Longitude bound p a (b ∷ []) t (both (λ q. coordinate Longitude q ≤ℤ bound) a b h k) (near_some p a b t near))

pub least_y : (p a b : Point) (t : ℕ) → IsNearEdge p a b t → (bound : ℤ) → bound ≤ℤ a.y → bound ≤ℤ b.y → bound ≤ℤ (p.y +ℤ pos t)
least_y p a b t near bound h k = once bound p.y t (line_at_least Latitude bound p a (b ∷ []) t (both (λ q. bound ≤ℤ coordinate Latitude q) a b h k) (near_some p a b t near))

pub greatest_y : (p a b : Point) (t : ℕ) → IsNearEdge p a b t → (bound : ℤ) → a.y ≤ℤ bound → b.y ≤ℤ bound → p.y ≤ℤ (bound +ℤ pos t)
greatest_y p a b t near bound h k = once p.y bound t (line_at_most Latitude bound p a (b ∷ []) t (both (λ q. coordinate Latitude q ≤ℤ bound) a b h k) (near_some p a b t near))
