-- Ways turned round and ways in two steps.
use Rattle.std.proofs.Common.{◌≡◌, ℕ, ◌+◌, ◌*◌, ◌≤◌, ℤ, pos, negsuc, ◌+ℤ◌, ◌-ℤ◌, ◌*ℤ◌, ◌≤ℤ◌, inl, inr, ap₂, arith}
use Rattle.std.proofs.Math.IntN.{pos-*ℤ-pos}
use Rattle.std.proofs.lemmas.Int.{ints}
use Rattle.std.proofs.lemmas.Bool.{cases_lt}
use Rattle.std.proofs.lemmas.Nat.{mul-le, mul-lt}
use Rattle.venue_types.specs.declared.point.Spot.{Spot}
use Rattle.plane_exact.specs.Plane.{square}
use Rattle.plane_exact.specs.Length.{IsLength, Spans, scaled_square}
use Rattle.plane_exact.proofs.PolynomialLemmas.{rep, rep-pos, rep-add, rep-sub, rep-mul, rep-same, dot, cross, squares_of_products, square_not_negative, dot_not_negative}

-- ---- the way back

square_turned : (m n : ℤ) (k : ℕ) → square ((n -ℤ m) *ℤ pos k) ≡ square ((m -ℤ n) *ℤ pos k)
unfolding square
square_turned m n k =
    let there = rep-mul (rep-sub (rep n) (rep m)) (rep-pos k) in
    let back = rep-mul (rep-sub (rep m) (rep n)) (rep-pos k) in
    rep-same (rep-mul there there) (rep-mul back back) (omega arith)

way_turned : (a b : Spot) (kx ky : ℕ) → scaled_square a b kx ky ≡ scaled_square b a kx ky
unfolding scaled_square
way_turned a b kx ky = ap₂ ◌+ℤ◌ (square_turned a.x b.x kx) (square_turned a.y b.y ky)

Spans-turned : (a b : Spot) (kx ky c : ℕ) → Spans a b kx ky c → Spans b a kx ky c
Spans-turned a b kx ky c h = record { spans = rw (← way_turned a b kx ky) h.spans }

pub IsLength-turned : (a b : Spot) (kx ky c : ℕ) → IsLength a b kx ky c → IsLength b a kx ky c
IsLength-turned a b kx ky c h = record {
  spans = Spans-turned a b kx ky c h.spans;
  least = λ n spanned. h.least n (Spans-turned b a kx ky n spanned);
}

-- ---- a way in two steps

-- the square of u + v
square_of_both : (ux uy vx vy : ℤ) → dot (ux +ℤ vx) (uy +ℤ vy) (ux +ℤ vx) (uy +ℤ vy) ≡ dot ux uy ux uy +ℤ ((pos 2 *ℤ dot ux uy vx vy) +ℤ dot vx vy vx vy)
square_of_both ux uy vx vy =
    let x = rep-add (rep ux) (rep vx) in
    let y = rep-add (rep uy) (rep vy) in
    let u = rep-add (rep-mul (rep ux) (rep ux)) (rep-mul (rep uy) (rep uy)) in
    let v = rep-add (rep-mul (rep vx) (rep vx)) (rep-mul (rep vy) (rep vy)) in
    let both = rep-mul (rep-pos 2) (rep-add (rep-mul (rep ux) (rep vx)) (rep-mul (rep uy) (rep vy))) in
    rep-same (rep-add (rep-mul x x) (rep-mul y y)) (rep-add u (rep-add both v)) (omega arith)

product_bound : (m n : ℤ) (a b : ℕ) → pos 0 ≤ℤ m → pos 0 ≤ℤ n → m ≤ℤ pos a → n ≤ℤ pos b → (m *ℤ n) ≤ℤ pos (a * b)
product_bound (pos m) (pos n) a b h k p q =
    let within : m * n ≤ a * b = mul-le _ _ _ _ (omega (arith, ints)) (omega (arith, ints)) in
    rw (pos-*ℤ-pos m n) (omega (arith, ints))
product_bound (pos m) (negsuc n) a b h k p q = absurd (omega (arith, ints))
product_bound (negsuc m) (pos n) a b h k p q = absurd (omega (arith, ints))
product_bound (negsuc m) (negsuc n) a b h k p q = absurd (omega (arith, ints))

root_bound : (m n : ℕ) → m * m ≤ n * n → m ≤ n
root_bound m n h = elim (cases_lt n m) [ inl more ↦ absurd (omega (arith, mul-lt n n m m more more)) | inr less ↦ less ]

whole_root_bound : (z : ℤ) (n : ℕ) → (z *ℤ z) ≤ℤ pos (n * n) → z ≤ℤ pos n
whole_root_bound (pos m) n h =
    let within : m ≤ n = root_bound m n (omega (arith, ints, pos-*ℤ-pos m m)) in
    omega (arith, ints)
whole_root_bound (negsuc m) n h = omega (arith, ints)

le_first : (a b x y : ℤ) → x ≡ a +ℤ b → pos 0 ≤ℤ b → x ≤ℤ y → a ≤ℤ y
le_first a b x y e h k = omega (arith, ints)

-- the scalar product of two ways is no more than the product of their lengths
dot_bound : (ux uy vx vy : ℤ) (k c d : ℕ) → dot ux uy ux uy ≤ℤ pos (k * (c * c)) → dot vx vy vx vy ≤ℤ pos (k * (d * d)) → dot ux uy vx vy ≤ℤ pos (k * (c * d))
dot_bound ux uy vx vy k c d h l =
    let product = product_bound _ _ _ _ (dot_not_negative ux uy) (dot_not_negative vx vy) h l in
    let bound : (k * (c * c)) * (k * (d * d)) ≡ (k * (c * d)) * (k * (c * d)) = omega arith in
    whole_root_bound (dot ux uy vx vy) (k * (c * d)) (le_first _ _ _ _ (squares_of_products ux uy vx vy) (square_not_negative (cross ux uy vx vy)) (rw bound at product))

sum_bound : (u m v : ℤ) (k c d : ℕ) → u ≤ℤ pos (k * (c * c)) → m ≤ℤ pos (k * (c * d)) → v ≤ℤ pos (k * (d * d)) → (u +ℤ ((pos 2 *ℤ m) +ℤ v)) ≤ℤ pos (k * ((c + d) * (c + d)))
sum_bound u m v k c d h l o =
    let whole : k * ((c + d) * (c + d)) ≡ k * (c * c) + (2 * (k * (c * d)) + k * (d * d)) = omega arith in
    rw whole (omega (arith, ints))

-- a step across along one axis is the sum of the two steps
step_of_both : (a b e : ℤ) (k : ℕ) → (e -ℤ a) *ℤ pos k ≡ ((b -ℤ a) *ℤ pos k) +ℤ ((e -ℤ b) *ℤ pos k)
step_of_both a b e k =
    rep-same (rep-mul (rep-sub (rep e) (rep a)) (rep-pos k)) (rep-add (rep-mul (rep-sub (rep b) (rep a)) (rep-pos k)) (rep-mul (rep-sub (rep e) (rep b)) (rep-pos k))) (omega arith)

pub Spans-both : (a b e : Spot) (kx ky c d : ℕ) → Spans a b kx ky c → Spans b e kx ky d → Spans a e kx ky (c + d)
unfolding scaled_square square
Spans-both a b e kx ky c d h l =
    let k : ℕ = 4000000000000000000 in
    let ux = (b.x -ℤ a.x) *ℤ pos kx in
    let uy = (b.y -ℤ a.y) *ℤ pos ky in
    let vx = (e.x -ℤ b.x) *ℤ pos kx in
    let vy = (e.y -ℤ b.y) *ℤ pos ky in
    let both = sum_bound _ _ _ k c d h.spans (dot_bound ux uy vx vy k c d h.spans l.spans) l.spans in
    record { spans = rw (step_of_both a.x b.x e.x kx, step_of_both a.y b.y e.y ky) (rw (square_of_both ux uy vx vy) both) }

pub detour : (a b e : Spot) (kx ky c d f : ℕ) → IsLength a b kx ky c → IsLength b e kx ky d → IsLength a e kx ky f → f ≤ c + d
detour a b e kx ky c d f h l o = o.least (c + d) (Spans-both a b e kx ky c d h.spans l.spans)
