-- Products that fit, and the range of what is multiplied.
use Rattle.std.proofs.Common.{◌≡◌, ℕ, ◌<◌, ◌≤◌, ℤ, pos, ◌*ℤ◌, FitsSigned, w64, to_z, of_z, List, flat_map, length, get_or, All, Contains, ap₂, sym, subst, lit<, arith}
use Rattle.std.proofs.lemmas.Int.{ints}
use Rattle.std.proofs.lemmas.List.Elements.{All-weaker, All-contains, All-contains_itself}
use Rattle.venue_types.proofs.Items.{Contains-flat_map}
use Rattle.plane_exact.specs.Plane.{IsWithin}
use Rattle.plane_exact.proofs.NumberLemmas.{IsWithin-mul, fits_from_IsWithin, read_back}

-- ---- ranges

-- what holds of the points of all items holds of those of each
pub all_item : {X A : Type 0} (P : A → Type 0) (f : X → List A) (xs : List X) (x : X) → Contains xs x → All P (flat_map f xs) → All P (f x)
all_item P f xs x has all = All-weaker (Contains (f x)) P (λ y h. All-contains P (flat_map f xs) y all ((Contains-flat_map f xs y).1 (x, has, h))) (f x) (All-contains_itself (f x))

-- an item that is read from a list is one of its items
pub has_item : {X : Type 0} (read items : List X) (i : ℕ) (item : X) → read ≡ items → i < length read → item ≡ get_or read i item → Contains items item
has_item {X} read items i item e within at = subst (λ (list : List X). Contains list item) e (i, within, sym at)

-- ---- products

times_fits : (k : ℕ) (n : ℤ) → k ≤ 4 → IsWithin 2000000000000000000 n (pos 0) → FitsSigned w64 (pos k *ℤ n)
times_fits k n few h =
    let factor : IsWithin 4 (pos k) (pos 0) = record { above = omega (arith, ints); below = omega (arith, ints) } in
    fits_from_IsWithin 8000000000000000000 (pos k *ℤ n) (IsWithin-mul (pos k) n 4 2000000000000000000 factor h) (lit< tt)

small : (k : ℕ) → k ≤ 4 → to_z w64 k ≡ pos k
small k few = omega (arith, ints)

whole : (n : ℤ) → IsWithin 2000000000000000000 n (pos 0) → to_z w64 (of_z w64 n) ≡ n
whole n h = omega (arith, ints)

pub times_back : (k : ℕ) (n : ℤ) → k ≤ 4 → IsWithin 2000000000000000000 n (pos 0) → to_z w64 (of_z w64 (to_z w64 k *ℤ to_z w64 (of_z w64 n))) ≡ pos k *ℤ n
times_back k n few h = read_back w64 _ _ (ap₂ ◌*ℤ◌ (small k few) (whole n h)) (times_fits k n few h)
