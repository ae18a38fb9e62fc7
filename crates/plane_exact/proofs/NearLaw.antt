-- A position is near an edge exactly where some position of the edge is within the tolerance.
use Rattle.std.proofs.Common.{◌≡◌, ℕ, ◌+◌, ◌-◌, ◌*◌, ◌<◌, ◌≤◌, ℤ, pos, neg_ℤ, ◌+ℤ◌, ◌-ℤ◌, ◌*ℤ◌, ◌≤ℤ◌, unsigned_abs, ap, ap₂, sym, ◌∙◌, subst, negsuc, zero, suc, arith}
use Rattle.std.proofs.lemmas.Int.{ints, by_lt_z}
use Rattle.venue_types.specs.declared.point.Point.{Point}
use Rattle.plane_exact.specs.Plane.{side, along, squared_distance, square}
use Rattle.plane_exact.specs.Segment.{IsNearEdge, HasPositionNear, ReachesAt}
use Rattle.plane_exact.proofs.PolynomialLemmas.{dot, cross, squares_of_products, cross_of_rest, square_of_multiple, regroup, upright_x, upright_y, upright_square, turned_round, dot_turned, from_end, dot_from_end, square_not_negative, dot_not_negative, multiple_le, le_of_multiple, le_second, leads_away}

-- ---- from some position of the edge

le_along : (x y z : ℤ) → x ≤ℤ y → y ≤ℤ z → x ≤ℤ z
le_along x y z h k = omega (arith, ints)

square_some : (n : ℕ) → 0 < n → 0 < n * n
square_some zero h = absurd (omega (arith, h))
square_some (suc n) h = omega arith

-- the squared length of n q - m d, in the names of this file
abbrev rest_square : ℤ → ℤ → ℤ → ℤ → ℕ → ℕ → ℤ
rest_square dx dy qx qy m n = dot ((pos n *ℤ qx) -ℤ (pos m *ℤ dx)) ((pos n *ℤ qy) -ℤ (pos m *ℤ dy)) ((pos n *ℤ qx) -ℤ (pos m *ℤ dx)) ((pos n *ℤ qy) -ℤ (pos m *ℤ dy))

near_start : (dx dy qx qy : ℤ) (t m n : ℕ) → 0 < n → rest_square dx dy qx qy m n ≤ℤ pos ((n * n) * t) → dot dx dy qx qy ≤ℤ pos 0 → dot qx qy qx qy ≤ℤ pos t
near_start dx dy qx qy t m n some reach back =
    let onward : pos 0 ≤ℤ neg_ℤ (dot dx dy qx qy) = turn _ back in
    let away : (pos (n * n) *ℤ dot qx qy qx qy) ≤ℤ rest_square dx dy qx qy m n =
    rw (turned_round dx qx m n, turned_round dy qy m n) (leads_away qx qy (neg_ℤ dx) (neg_ℤ dy) n m (rw (dot_turned dx dy qx qy) onward)) in
    le_of_multiple (n * n) (dot qx qy qx qy) (pos t) (square_some n some) (le_along _ _ _ away reach) where
      turn : (s : ℤ) → s ≤ℤ pos 0 → pos 0 ≤ℤ neg_ℤ s
      turn s h = omega (arith, ints)

near_end : (px py ax ay bx by : ℤ) (t m k : ℕ) → 0 < m + k → rest_square (bx -ℤ ax) (by -ℤ ay) (px -ℤ ax) (py -ℤ ay) m (m + k) ≤ℤ pos (((m + k) * (m + k)) * t) → dot (bx -ℤ ax) (by -ℤ ay) (bx -ℤ ax) (by -ℤ ay) ≤ℤ dot (bx -ℤ ax) (by -ℤ ay) (px -ℤ ax) (py -ℤ ay) → dot (px -ℤ bx) (py -ℤ by) (px -ℤ bx) (py -ℤ by) ≤ℤ pos t
near_end px py ax ay bx by t m k some reach beyond =
    let onward : pos 0 ≤ℤ dot (px -ℤ bx) (py -ℤ by) (bx -ℤ ax) (by -ℤ ay) = left_over _ _ _ (dot_from_end px py ax ay bx by) beyond in
    let away : (pos ((m + k) * (m + k)) *ℤ dot (px -ℤ bx) (py -ℤ by) (px -ℤ bx) (py -ℤ by)) ≤ℤ rest_square (bx -ℤ ax) (by -ℤ ay) (px -ℤ ax) (py -ℤ ay) m (m + k) =
    rw (from_end px ax bx m k, from_end py ay by m k) (leads_away (px -ℤ bx) (py -ℤ by) (bx -ℤ ax) (by -ℤ ay) (m + k) k onward) in
    le_of_multiple ((m + k) * (m + k)) _ (pos t) (square_some (m + k) some) (le_along _ _ _ away reach) where
      left_over : (w d s : ℤ) → w +ℤ d ≡ s → d ≤ℤ s → pos 0 ≤ℤ w
      left_over w d s e h = omega (arith, ints)

near_line : (dx dy qx qy : ℤ) (t m n : ℕ) → 0 < n → rest_square dx dy qx qy m n ≤ℤ pos ((n * n) * t) → (cross dx dy qx qy *ℤ cross dx dy qx qy) ≤ℤ (pos t *ℤ dot dx dy dx dy)
near_line dx dy qx qy t m n some reach =
    let vx = (pos n *ℤ qx) -ℤ (pos m *ℤ dx) in
    let vy = (pos n *ℤ qy) -ℤ (pos m *ℤ dy) in
    let part : (cross dx dy vx vy *ℤ cross dx dy vx vy) ≤ℤ (dot dx dy dx dy *ℤ rest_square dx dy qx qy m n) = le_second _ _ _ (squares_of_products dx dy vx vy) (square_not_negative (dot dx dy vx vy)) in
    let scaled : (dot dx dy dx dy *ℤ rest_square dx dy qx qy m n) ≤ℤ (dot dx dy dx dy *ℤ pos ((n * n) * t)) = times _ _ _ (dot_not_negative dx dy) reach in
    let same : cross dx dy vx vy *ℤ cross dx dy vx vy ≡ pos (n * n) *ℤ (cross dx dy qx qy *ℤ cross dx dy qx qy) = ap (λ c. c *ℤ c) (cross_of_rest dx dy qx qy m n) ∙ square_of_multiple n (cross dx dy qx qy) in
    le_of_multiple (n * n) _ _ (square_some n some) (subst (λ (z : ℤ). z ≤ℤ (pos (n * n) *ℤ (pos t *ℤ dot dx dy dx dy))) same (subst (λ (z : ℤ). (cross dx dy vx vy *ℤ cross dx dy vx vy) ≤ℤ z) (regroup (n * n) t (dot dx dy dx dy)) (le_along _ _ _ part scaled))) where
      times : (d x y : ℤ) → pos 0 ≤ℤ d → x ≤ℤ y → (d *ℤ x) ≤ℤ (d *ℤ y)
      times (pos n) x y h k = multiple_le n x y k
      times (negsuc n) x y h k = absurd (omega (arith, ints, h))

pub near_from_position : (p a b : Point) (t m n : ℕ) → 0 < n → m ≤ n → ReachesAt p a b t m n → IsNearEdge p a b t
unfolding side along squared_distance square
near_from_position p a b t m n some part h =
    let k = n - m in
    let whole : n ≡ m + k = omega arith in
    record {
      before = λ back. near_start (b.x -ℤ a.x) (b.y -ℤ a.y) (p.x -ℤ a.x) (p.y -ℤ a.y) (t * t) m n some h.reach back;
      beyond = λ _ past. near_end p.x p.y a.x a.y b.x b.y (t * t) m k (subst (λ (i : ℕ). 0 < i) whole some) (subst (λ (i : ℕ). rest_square (b.x -ℤ a.x) (b.y -ℤ a.y) (p.x -ℤ a.x) (p.y -ℤ a.y) m i ≤ℤ pos ((i * i) * (t * t))) whole h.reach) past;
      beside = λ _ _. near_line (b.x -ℤ a.x) (b.y -ℤ a.y) (p.x -ℤ a.x) (p.y -ℤ a.y) (t * t) m n some h.reach;
    }

-- ---- to some position of the edge

at_start : (q d : ℤ) → (pos 1 *ℤ q) -ℤ (pos 0 *ℤ d) ≡ q
at_start q d = omega (arith, ints)

at_end : (p a b : ℤ) → (pos 1 *ℤ (p -ℤ a)) -ℤ (pos 1 *ℤ (b -ℤ a)) ≡ p -ℤ b
at_end p a b = omega (arith, ints)

one_times : (x : ℤ) (t : ℕ) → x ≤ℤ pos t → x ≤ℤ pos ((1 * 1) * t)
one_times x t h = omega (arith, ints)

natural : (z : ℤ) → pos 0 ≤ℤ z → pos (unsigned_abs z) ≡ z
natural z h = omega (arith, ints)

-- at the foot of the upright from q on d
reaches_foot : (dx dy qx qy : ℤ) (t m n : ℕ) → pos n ≡ dot dx dy dx dy → pos m ≡ dot dx dy qx qy → (cross dx dy qx qy *ℤ cross dx dy qx qy) ≤ℤ (pos t *ℤ dot dx dy dx dy) → rest_square dx dy qx qy m n ≤ℤ pos ((n * n) * t)
reaches_foot dx dy qx qy t m n e f h =
    let c = cross dx dy qx qy in
    let x : (pos n *ℤ qx) -ℤ (pos m *ℤ dx) ≡ neg_ℤ (dy *ℤ c) = ap₂ (λ (k l : ℤ). (k *ℤ qx) -ℤ (l *ℤ dx)) e f ∙ upright_x dx dy qx qy in
    let y : (pos n *ℤ qy) -ℤ (pos m *ℤ dy) ≡ dx *ℤ c = ap₂ (λ (k l : ℤ). (k *ℤ qy) -ℤ (l *ℤ dy)) e f ∙ upright_y dx dy qx qy in
    let total : rest_square dx dy qx qy m n ≡ pos n *ℤ (c *ℤ c) = ap₂ (λ (k l : ℤ). (k *ℤ k) +ℤ (l *ℤ l)) x y ∙ upright_square dx dy c ∙ ap (λ (k : ℤ). k *ℤ (c *ℤ c)) (sym e) in
    let within : (c *ℤ c) ≤ℤ (pos t *ℤ pos n) = subst (λ (k : ℤ). (c *ℤ c) ≤ℤ (pos t *ℤ k)) (sym e) h in
    let most : pos n *ℤ (pos t *ℤ pos n) ≡ pos ((n * n) * t) = omega (arith, ints) in
    subst (λ (k : ℤ). k ≤ℤ pos ((n * n) * t)) (sym total) (subst (λ (k : ℤ). (pos n *ℤ (c *ℤ c)) ≤ℤ k) most (multiple_le n _ _ within))

pub position_from_near : (p a b : Point) (t : ℕ) → IsNearEdge p a b t → HasPositionNear p a b t
unfolding side along squared_distance square
position_from_near p a b t h = by_lt_z (pos 0) (along a b p)
    (λ after. by_lt_z (along a b p) (squared_distance a b)
    (λ within.
    let s : pos (unsigned_abs (along a b p)) ≡ along a b p = natural _ (omega (arith, ints, after)) in
    let d : pos (unsigned_abs (squared_distance a b)) ≡ squared_distance a b = natural _ (omega (arith, ints, after, within)) in
    (unsigned_abs (along a b p), unsigned_abs (squared_distance a b), omega (arith, ints), omega (arith, ints), record { reach = reaches_foot (b.x -ℤ a.x) (b.y -ℤ a.y) (p.x -ℤ a.x) (p.y -ℤ a.y) (t * t) _ _ d s (h.beside after within) }))
    (λ past. (
      1,
      1,
      omega arith,
      omega arith,
      record {
        reach =
            subst (λ (k : ℤ). k ≤ℤ pos ((1 * 1) * (t * t))) (sym (ap₂ (λ (k l : ℤ). (k *ℤ k) +ℤ (l *ℤ l)) (at_end p.x a.x b.x) (at_end p.y a.y b.y))) (one_times _ _ (h.beyond after past));
      },
    )))
    (λ back. (
      0,
      1,
      omega arith,
      omega arith,
      record {
        reach =
            subst (λ (k : ℤ). k ≤ℤ pos ((1 * 1) * (t * t))) (sym (ap₂ (λ (k l : ℤ). (k *ℤ k) +ℤ (l *ℤ l)) (at_start (p.x -ℤ a.x) (b.x -ℤ a.x)) (at_start (p.y -ℤ a.y) (b.y -ℤ a.y)))) (one_times _ _ (h.before back));
      },
    ))
