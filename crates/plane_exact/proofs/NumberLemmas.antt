-- Products of whole numbers that lie within a bound.
use Rattle.std.proofs.Common.{◌≡◌, ℕ, ◌*◌, ◌^◌, ◌<◌, ◌≤◌, ℤ, pos, ◌*ℤ◌, ◌+ℤ◌, ◌-ℤ◌, unsigned_abs, ◌∙◌, ap₂, lit<, FitsSigned, w64, to_z, of_z, arith}
use mir.Syntax.{Width, w128}
use Rattle.std.proofs.lemmas.Int.{ints, unsigned_abs-mul, to_z-of_z}
use Rattle.std.proofs.lemmas.Nat.{mul-le}
use Rattle.plane_exact.specs.Plane.{IsWithin}

abs_from_IsWithin : (bound : ℕ) (n : ℤ) → IsWithin bound n (pos 0) → unsigned_abs n ≤ bound
abs_from_IsWithin bound n h = omega (arith, ints)

IsWithin-from_abs : (bound : ℕ) (n : ℤ) → unsigned_abs n ≤ bound → IsWithin bound n (pos 0)
IsWithin-from_abs bound n h = omega (arith, ints)

pub IsWithin-mul : (m n : ℤ) (a b : ℕ) → IsWithin a m (pos 0) → IsWithin b n (pos 0) → IsWithin (a * b) (m *ℤ n) (pos 0)
IsWithin-mul m n a b h k =
    let within : unsigned_abs m * unsigned_abs n ≤ a * b = mul-le _ _ _ _ (abs_from_IsWithin a m h) (abs_from_IsWithin b n k) in
    IsWithin-from_abs (a * b) (m *ℤ n) (rw unsigned_abs-mul within)

-- a number within a bound below 2 ^ 63 fits 64 bits
pub fits_from_IsWithin : (bound : ℕ) (n : ℤ) → IsWithin bound n (pos 0) → bound < 2 ^ 63 → FitsSigned w64 n
fits_from_IsWithin bound n h k = omega (arith, ints)

-- what the code computes at a number that fits, whose operands it reads back
pub read_back : (w : Width) (n m : ℤ) → n ≡ m → FitsSigned w m → to_z w (of_z w n) ≡ m
read_back w n m e fits = rw e (to_z-of_z w m fits)

-- a product whose factors are read back
pub product_of : (r m n : ℤ) → r ≡ to_z w64 (of_z w64 m) *ℤ to_z w64 (of_z w64 n) → IsWithin 800000000 m (pos 0) → IsWithin 800000000 n (pos 0) → r ≡ m *ℤ n
product_of r m n e h k = e ∙ ap₂ ◌*ℤ◌ (to_z-of_z w64 m (fits_from_IsWithin 800000000 m h (lit< tt))) (to_z-of_z w64 n (fits_from_IsWithin 800000000 n k (lit< tt)))

-- the sum and the difference of two products, as the code computes them
pub sum_of : (m n : ℤ) → IsWithin 640000000000000000 m (pos 0) → IsWithin 640000000000000000 n (pos 0) → to_z w64 (of_z w64 (to_z w64 (of_z w64 m) +ℤ to_z w64 (of_z w64 n))) ≡ m +ℤ n
sum_of m n h k = omega (arith, ints)

pub difference_of : (m n : ℤ) → IsWithin 640000000000000000 m (pos 0) → IsWithin 640000000000000000 n (pos 0) → to_z w64 (of_z w64 (to_z w64 (of_z w64 m) -ℤ to_z w64 (of_z w64 n))) ≡ m -ℤ n
difference_of m n h k = omega (arith, ints)

-- the square of a wide number that comes from 64 bits
pub wide_square_of : (n : ℤ) → IsWithin 1280000000000000000 n (pos 0) → (FitsSigned w128 (n *ℤ n)) × (to_z w128 (of_z w128 (to_z w64 (of_z w64 n))) ≡ n)
wide_square_of n h =
    let range : IsWithin 1638400000000000000000000000000000000 (n *ℤ n) (pos 0) = IsWithin-mul n n 1280000000000000000 1280000000000000000 h h in
    (omega (arith, ints), omega (arith, ints))
