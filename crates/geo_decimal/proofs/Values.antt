-- A token has at most one value.
use Rattle.std.proofs.Common.{◌≡◌, ℕ, ◌<◌, ◌≤◌, ◌⊎◌, inl, inr, zero, suc, Bool, true, false, List, refl, sym, ap, ◌∙◌, subst, arith, ℤ}
use Rattle.std.proofs.lemmas.Bool.{cases_lt}
use Rattle.std.proofs.lemmas.Int.{ints}
use Rattle.geo_decimal.specs.Number.{Number, Spells, spelling, IsNumber, IsWellFormed}
use Rattle.geo_decimal.specs.Cutting.{IsCut}
use Rattle.geo_decimal.specs.Value.{IsRounded, IsSize, signed, IsNano, IsWithin}
use Rattle.geo_decimal.proofs.Cuts.{cut_once, well_formed_cut}

pub rounded_once : (d up down p q : ℕ) → IsRounded d up down p → IsRounded d up down q → p ≡ q
rounded_once d up down p q a b = go (cases_lt up down)
  where
    go : (up < down) ⊎ (down ≤ up) → p ≡ q
    go (inl h) = let l = (b.nearest h).greatest p (a.nearest h).has in let g = (a.nearest h).greatest q (b.nearest h).has in omega (arith, l, g)
    go (inr h) = a.exact h ∙ sym (b.exact h)

-- a token is the text of at most one number
pub spelled_once : (token : List ℕ) (m n : Number) → Spells token m → Spells token n → m ≡ n
spelled_once token m n a b = cut_once m n (well_formed_cut m a.well_formed) (well_formed_cut n b.well_formed) (sym a.text ∙ b.text)

pub one_value : (token : List ℕ) (m n : ℤ) → IsNano token m → IsNano token n → m ≡ n
one_value token m n a b =
    let same = spelled_once token a.number b.number a.spelled b.spelled in
    let r : IsSize a.number b.size = subst (λ k. IsSize k b.size) (sym same) b.rounded in
    let size : a.size ≡ b.size = rounded_once _ _ _ a.size b.size a.rounded r in
    a.value ∙ ap (λ k. signed k.minus a.size) same ∙ ap (signed b.number.minus) size ∙ sym b.value

-- a token whose cut is no number is none
pub not_number : (token : List ℕ) (n : Number) → spelling n ≡ token → IsCut n → (IsWellFormed n → ⊥) → IsNumber token → ⊥
not_number token n text cut broken (m, s) = broken (subst IsWellFormed (cut_once m n (well_formed_cut m s.well_formed) cut (sym s.text ∙ sym text)) s.well_formed)

-- ---- the bound, by the size

pub within_by_size : (minus : Bool) (q : ℕ) → q ≤ 180000000000 → IsWithin (signed minus q)
within_by_size false q h = (grind (arith, ints, h), grind (arith, ints, h))
within_by_size true zero h = (grind (arith, ints, h), grind (arith, ints, h))
within_by_size true (suc q) h = (grind (arith, ints, h), grind (arith, ints, h))

pub past_by_size : (minus : Bool) (q : ℕ) → 180000000000 < q → IsWithin (signed minus q) → ⊥
past_by_size false q h (low, high) = omega (arith, ints, h, high)
past_by_size true zero h (low, high) = omega (arith, h)
past_by_size true (suc q) h (low, high) = omega (arith, ints, h, low)

-- a token that has a value within the bound has none past it
pub only_within : (token : List ℕ) (m : ℤ) → IsNano token m → IsWithin m → ((n : ℤ) × IsNano token n × (IsWithin n → ⊥)) → ⊥
only_within token m a within (n, b, past) = past (subst IsWithin (one_value token m n a b) within)

-- what the parts of a token and its size give
pub value_of_parts : (token : List ℕ) (n : Number) (q : ℕ) (v : ℤ) → spelling n ≡ token → IsWellFormed n → IsSize n q → v ≡ signed n.minus q → IsNano token v
value_of_parts token n q v text fits rounded value = record { number = n; spelled = record { text = sym text; well_formed = fits }; size = q; rounded = rounded; value = value }

pub none_within : (token : List ℕ) (n : Number) (q : ℕ) (v : ℤ) → spelling n ≡ token → IsWellFormed n → IsSize n q → q ≤ 180000000000 → v ≡ signed n.minus q → ((m : ℤ) × IsNano token m × (IsWithin m → ⊥)) → ⊥
none_within token n q v text fits rounded small value = only_within token v (value_of_parts token n q v text fits rounded value) (subst IsWithin (sym value) (within_by_size n.minus q small))

pub some_past : (token : List ℕ) (n : Number) → spelling n ≡ token → IsWellFormed n → ((q : ℕ) × IsSize n q × (180000000000 < q)) → (v : ℤ) × IsNano token v × (IsWithin v → ⊥)
some_past token n text fits (q, rounded, past) = (signed n.minus q, value_of_parts token n q (signed n.minus q) text fits rounded refl, past_by_size n.minus q past)
