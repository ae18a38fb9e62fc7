-- Tests of digits.
use Rattle.std.proofs.Common.{◌≡◌, ℕ, ◌≤◌, ◌<◌, true, List, [], ◌∷◌, refl, arith}
use Rattle.std.specs.List.{list_all}
use Rattle.std.specs.Char.{is_ascii_digit, digit_value}
use Rattle.std.specs.Str.Parse.{AllDigits}
use Rattle.std.proofs.lemmas.Bool.{and_parts, and_from, le-leb, leb-true}
use Rattle.std.proofs.lemmas.Str.Parse.{digit_from_value}

value_in_range : (c : ℕ) → 48 ≤ c → c ≤ 57 → digit_value c < 10
value_in_range c l g = grind (arith, l, g)

pub digits_from_test : (ds : List ℕ) → list_all is_ascii_digit ds ≡ true → AllDigits 10 ds
digits_from_test [] h = tt
digits_from_test (c ∷ cs) h =
    let p = and_parts (is_ascii_digit c) (list_all is_ascii_digit cs) h in
    let r = and_parts _ _ p.0 in
    (value_in_range c (leb-true 48 c r.0) (leb-true c 57 r.1), digits_from_test cs p.1)

pub digits_to_test : (ds : List ℕ) → AllDigits 10 ds → list_all is_ascii_digit ds ≡ true
digits_to_test [] h = refl
digits_to_test (c ∷ cs) h =
    let r = digit_from_value c h.0 in
    and_from (is_ascii_digit c) (list_all is_ascii_digit cs) (and_from _ _ (le-leb 48 c r.0) (le-leb c 57 r.1)) (digits_to_test cs h.1)
