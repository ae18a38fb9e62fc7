-- Squares of ways, and the least number of centimetres whose square reaches one.
use Rattle.std.proofs.Common.{◌≡◌, ℕ, ◌*◌, ◌+◌, ◌≤◌, ℤ, pos, negsuc, ◌+ℤ◌, ◌*ℤ◌, ◌≤ℤ◌, unsigned_abs, ap, ap₂, sym, ◌∙◌, ◌-ℤ◌, ◌↔◌, arith}
use Rattle.std.proofs.Math.IntN.{pos-*ℤ-pos, negsuc-*ℤ-negsuc}
use Rattle.std.proofs.lemmas.Int.{ints, unsigned_abs-mul}
use Rattle.std.proofs.lemmas.Nat.{mul-le}
use Rattle.venue_types.specs.declared.point.Spot.{Spot}
use Rattle.plane_exact.specs.Plane.{square}
use Rattle.plane_exact.specs.Length.{IsLength, Spans, scaled_square}

abs_square : (n : ℤ) → square n ≡ pos (unsigned_abs n * unsigned_abs n)
unfolding square
abs_square (pos n) = pos-*ℤ-pos n n
abs_square (negsuc n) = negsuc-*ℤ-negsuc n n

-- the square of a way whose units count k, by its length
pub square_of_length : (n : ℤ) (length k : ℕ) → length ≡ unsigned_abs n → pos (length * k * (length * k)) ≡ square (n *ℤ pos k)
square_of_length n length k e =
    let counted : length * k ≡ unsigned_abs (n *ℤ pos k) = ap (λ m. m * k) e ∙ sym (unsigned_abs-mul n (pos k)) in
    ap (λ m. pos (m * m)) counted ∙ sym (abs_square (n *ℤ pos k))

pub square_bound : (length k : ℕ) → length ≤ 400000000 → k ≤ 20000000 → length * k * (length * k) ≤ 64000000000000000000000000000000
square_bound length k h l = let counted : length * k ≤ 400000000 * 20000000 = mul-le _ _ _ _ h l in mul-le _ _ _ _ counted counted

-- the square of the way, from the squares of its steps along the axes
pub way_of_steps : (a b : Spot) (kx ky x y : ℕ) (step_x step_y : ℤ) → step_x ≡ b.x -ℤ a.x → step_y ≡ b.y -ℤ a.y → pos x ≡ square (step_x *ℤ pos kx) → pos y ≡ square (step_y *ℤ pos ky) → pos (x + y) ≡ scaled_square a b kx ky
unfolding scaled_square
way_of_steps a b kx ky x y step_x step_y e f g h =
    ap₂ ◌+ℤ◌ (g ∙ ap (λ step. square (step *ℤ pos kx)) e) (h ∙ ap (λ step. square (step *ℤ pos ky)) f)

-- what spans the way is what reaches its square
pub Spans-reaches : (a b : Spot) (kx ky way c : ℕ) → pos way ≡ scaled_square a b kx ky → way ≤ 4000000000000000000 * (c * c) ↔ Spans a b kx ky c
Spans-reaches a b kx ky way c e = (λ reached. record { spans = rw (← e) (omega (arith, ints)) }, λ spanned. pos_le _ _ (rw (← e) at spanned.spans)) where
  pos_le : (m n : ℕ) → pos m ≤ℤ pos n → m ≤ n
  pos_le m n h = omega (arith, ints)

-- the least number that reaches the square of the way is its length
pub IsLength-from_square : (a b : Spot) (kx ky way c : ℕ) → pos way ≡ scaled_square a b kx ky → way ≤ 4000000000000000000 * (c * c) → ((m : ℕ) → way ≤ 4000000000000000000 * (m * m) → c ≤ m) → IsLength a b kx ky c
IsLength-from_square a b kx ky way c e reached least = record {
  spans = (Spans-reaches a b kx ky way c e).0 reached;
  least = λ n spanned. least n ((Spans-reaches a b kx ky way n e).1 spanned);
}
