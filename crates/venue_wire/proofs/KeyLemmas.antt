-- The bytes of a key and of a value, where a 0 stands past the value's end.
use Rattle.std.proofs.Common.{◌≡◌, ◌∙◌, ℕ, suc, ◌+◌, ◌<◌, ◌≤◌, Bool, true, false, ◌&&◌, nat_eq, List, [], ◌∷◌, length, drop, get_or, bytes_eq, refl, sym, ap, arith}
use native.Mathlib.Numerals.{unary_clauses}
use Rattle.std.specs.Int.RustNames.{bit_or, bit_xor}
use Rattle.std.specs.Int.Bits.{or_zero_l, xor_add_and, xor_self}
use Rattle.std.proofs.lemmas.Bool.Decides.{nat_tests}
use Rattle.std.proofs.lemmas.List.{drop_all, drop_more}
use Rattle.std.proofs.lemmas.Nat.{and_le_l, and_le_r, le_or_l, le_or_r}

-- the bytes of the key are those of the value from that place on
abbrev pub agrees : List ℕ → ℕ → List ℕ → Bool
agrees value place [] = true
agrees value place (byte ∷ key) = nat_eq byte (get_or value place 0) && agrees value (place + 1) key

-- two bytes are equal where no bit differs
no_bit : (a b : ℕ) → bit_xor a b ≡ 0 → a ≡ b
no_bit a b none = omega (arith, none, xor_add_and a b, and_le_l a b, and_le_r a b)

no_differences : (differences a b : ℕ) → nat_eq (bit_or differences (bit_xor a b)) 0 ≡ (nat_eq differences 0 && nat_eq a b)
no_differences differences a b =
    grind (arith, nat_tests, no_bit a b, xor_self a, or_zero_l (bit_xor a b), le_or_l differences (bit_xor a b), le_or_r differences (bit_xor a b))

by_parts : (both a b c : Bool) → both ≡ (a && b) → (both && c) ≡ (a && (b && c))
by_parts both true b c is = ap (λ first. first && c) is
by_parts both false b c is = ap (λ first. first && c) is

by_heads : (head a as_before l l_before all : Bool) → a ≡ as_before → l ≡ l_before → (as_before && l_before) ≡ all → ((head && a) && l) ≡ (head && all)
by_heads true a as_before l l_before all a_is l_is is = ap (λ x. x && l) a_is ∙ ap (λ x. as_before && x) l_is ∙ is
by_heads false a as_before l l_before all a_is l_is is = refl

and_true : (b : Bool) → (b && true) ≡ b
and_true true = refl
and_true false = refl

-- one byte further the whole key agrees still where it did
pub agrees_more : (differences place read : ℕ) (key value : List ℕ) → place < length key → read ≡ get_or value place 0
    → (nat_eq differences 0 && agrees value place (drop place key)) ≡ agrees value 0 key
    → (nat_eq (bit_or differences (bit_xor (get_or key place 0) read)) 0 && agrees value (place + 1) (drop (place + 1) key)) ≡ agrees value 0 key
agrees_more differences place read key value within is kept =
    by_parts (nat_eq (bit_or differences (bit_xor (get_or key place 0) read)) 0) (nat_eq differences 0) (nat_eq (get_or key place 0) read)
    (agrees value (place + 1) (drop (place + 1) key)) (no_differences differences (get_or key place 0) read)
    ∙ ap (λ byte. nat_eq differences 0 && (nat_eq (get_or key place 0) byte && agrees value (place + 1) (drop (place + 1) key))) is
    ∙ ap (λ left. nat_eq differences 0 && agrees value place left) (sym (drop_more key place 0 within))
    ∙ kept

-- a byte in front of the value moves each place by one
later : (value : List ℕ) (byte place : ℕ) (key : List ℕ) → agrees (byte ∷ value) (suc place) key ≡ agrees value place key
later value byte place [] = refl
later value byte place (first ∷ key) = simp unary_clauses (ap (λ rest. nat_eq first (get_or value place 0) && rest) (later value byte (suc place) key))

same_suc : (a b : ℕ) → nat_eq (suc a) (suc b) ≡ nat_eq a b
same_suc a b = grind (arith, nat_tests)

-- a key that agrees and is as long is the value
agrees_as_long : (key value : List ℕ) → (agrees value 0 key && nat_eq (length key) (length value)) ≡ bytes_eq key value
agrees_as_long [] [] = refl
agrees_as_long [] (byte ∷ value) = grind (arith, nat_tests)
agrees_as_long (first ∷ key) [] = grind (arith, nat_tests)
agrees_as_long (first ∷ key) (byte ∷ value) =
    by_heads (nat_eq first byte) (agrees (byte ∷ value) 1 key) (agrees value 0 key) (nat_eq (suc (length key)) (suc (length value)))
    (nat_eq (length key) (length value)) (bytes_eq key value) (later value byte 0 key) (same_suc (length key) (length value)) (agrees_as_long key value)

-- behind the last byte nothing is left that could differ
pub agrees_at_end : (differences place : ℕ) (key value : List ℕ) → length key ≤ place
    → (nat_eq differences 0 && agrees value place (drop place key)) ≡ agrees value 0 key
    → (nat_eq differences 0 && nat_eq (length key) (length value)) ≡ bytes_eq key value
agrees_at_end differences place key value past kept =
    let whole : nat_eq differences 0 ≡ agrees value 0 key
    = sym (and_true (nat_eq differences 0)) ∙ ap (λ left. nat_eq differences 0 && agrees value place left) (sym (drop_all place key past)) ∙ kept in
    ap (λ same. same && nat_eq (length key) (length value)) whole ∙ agrees_as_long key value
