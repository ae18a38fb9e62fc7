-- What JSON reads as a number is a number by its parts.
use Rattle.std.proofs.Common.{◌≡◌, ◌≢◌, ℕ, suc, ◌+◌, ◌<◌, ◌≤◌, Bool, true, false, cond, ◌||◌, ◌==◌, ◌∙◌, List, [], ◌∷◌, ◌++◌, drop, length, Option, Some, None, IfSome, is_some, option_and_then, inl, inr, ◌⊎◌, refl, sym, ap, arith, append_assoc}
use Rattle.std.proofs.lemmas.Bool.{false≢true, eqb-true, leb-true, and_parts, or_cases}
use Rattle.std.proofs.lemmas.List.{append-nil}
use Rattle.std.specs.List.{prefix_len}
use Rattle.std.specs.Option.{option_to_list}
use Rattle.std.specs.Char.{is_ascii_digit, digit_value}
use Rattle.std.specs.Str.Parse.{AllDigits, IsNumeral}
use Rattle.std.proofs.lemmas.Str.Parse.{digit_from_value}
use Rattle.std.proofs.lemmas.Option.{same_Some}
use Rattle.exact_json.specs.Number.{head, after_digits, after_minus, after_sign, after_whole, after_fraction, after_exponent, after_number, IsNumber}
use Rattle.geo_decimal.specs.Number.{minus_text, fraction_text, exponent_text, IsWhole, IsSign, IsExponent, IsNumber as IsDecimal}

by_bool : {A : Type 0} (b : Bool) → (b ≡ true → A) → (b ≡ false → A) → A
by_bool true f g = f refl
by_bool false f g = g refl

none_some : {A : Type 0} {x : A} → None ≡ Some x → ⊥
none_some h = false≢true (ap is_some h)

-- the branch that a test takes
yes : {A : Type 0} (c : Bool) (x y w : A) → c ≡ true → cond c x y ≡ w → x ≡ w
yes true x y w e h = h
yes false x y w e h = absurd (false≢true e)

no : {A : Type 0} (c : Bool) (x y w : A) → c ≡ false → cond c x y ≡ w → y ≡ w
no true x y w e h = absurd (false≢true (sym e))
no false x y w e h = h

begins : (t : List ℕ) (c : ℕ) → c ≢ 32 → head t ≡ c → t ≡ c ∷ drop 1 t
begins [] c ne e = absurd (ne (sym e))
begins (x ∷ t) c ne e = ap (λ y. y ∷ t) e

some_then : (f : List ℕ → Option (List ℕ)) (o : Option (List ℕ)) (r : List ℕ) → option_and_then f o ≡ Some r → (u : List ℕ) × (o ≡ Some u) × (f u ≡ Some r)
some_then f None r h = absurd (none_some h)
some_then f (Some u) r h = (u, refl, h)

-- ---- digits

digit_below : (c : ℕ) → is_ascii_digit c ≡ true → digit_value c < 10
digit_below c h = let p = and_parts _ _ h in by_range c (leb-true 48 c p.0) (leb-true c 57 p.1)
  where
    by_range : (c : ℕ) → 48 ≤ c → c ≤ 57 → digit_value c < 10
    by_range c l g = grind (arith, l, g)

-- the digits in front, n of them
Digits : List ℕ → ℕ → Type 0
Digits t n = (ds : List ℕ) × (t ≡ ds ++ drop n t) × AllDigits 10 ds × (length ds ≡ n)

digits_by : (x : ℕ) (xs : List ℕ) (d : Bool) (n : ℕ) → is_ascii_digit x ≡ d → Digits xs n → Digits (x ∷ xs) (cond d (1 + n) 0)
unfolding Digits
digits_by x xs false n h ih = ([], refl, tt, refl)
digits_by x xs true n h ih =
    let more : suc n ≡ 1 + n = omega arith in
    (x ∷ ih.0, ap (λ l. x ∷ l) ih.1 ∙ ap (λ k. x ∷ ih.0 ++ drop k (x ∷ xs)) more, (digit_below x h, ih.2), omega (arith, ih.3))

digits_front : (t : List ℕ) → Digits t (prefix_len is_ascii_digit t)
unfolding Digits
digits_front [] = ([], refl, tt, refl)
digits_front (x ∷ xs) = digits_by x xs (is_ascii_digit x) (prefix_len is_ascii_digit xs) refl (digits_front xs)

-- a part, and what follows it
Part : {A : Type 0} → (A → List ℕ) → (A → Type 0) → List ℕ → List ℕ → Type 0
Part {A} text P t r = (part : A) × (t ≡ text part ++ r) × P part

above_zero : (n : ℕ) → (n == 0) ≡ false → 0 < n
above_zero n h = grind (arith, h)

numeral : (t r : List ℕ) → after_digits t ≡ Some r → Part (λ ds. ds) (IsNumeral 10) t r
unfolding Part Digits
numeral t r h = by_bool (prefix_len is_ascii_digit t == 0)
    (λ e. absurd (none_some (yes (prefix_len is_ascii_digit t == 0) None (Some (drop (prefix_len is_ascii_digit t) t)) (Some r) e h)))
    (λ e.
    let n = prefix_len is_ascii_digit t in
    let d = digits_front t in
    let rest = same_Some (drop n t) r (no (n == 0) None (Some (drop n t)) (Some r) e h) in
    (d.0, d.1 ∙ ap (λ l. d.0 ++ l) rest, (omega (arith, above_zero n e, d.3), d.2)))

-- ---- the parts of a number

whole_digits : (ds : List ℕ) → IsNumeral 10 ds → (head ds == 48) ≡ false → IsWhole ds
whole_digits [] h e = absurd (omega (arith, h.0))
whole_digits (c ∷ cs) h e = let r = digit_from_value c h.1.0 in inr (above c r.0 e, r.1, h.1.1)
  where
    above : (c : ℕ) → 48 ≤ c → (c == 48) ≡ false → 49 ≤ c
    above c l e = grind (arith, l, e)

whole : (t r : List ℕ) → after_whole t ≡ Some r → Part (λ w. w) IsWhole t r
unfolding Part
whole t r h = by_bool (head t == 48)
    (λ e. (48 ∷ [], begins t 48 (λ w. omega (arith, w)) (eqb-true (head t) 48 e) ∙ ap (λ l. 48 ∷ l) (same_Some (drop 1 t) r (yes (head t == 48) (Some (drop 1 t)) (after_digits t) (Some r) e h)), inl (refl, refl)))
    (λ e.
    let n = numeral t r (no (head t == 48) (Some (drop 1 t)) (after_digits t) (Some r) e h) in
    (n.0, n.1, whole_digits n.0 n.2 (same_head n.0 r t n.1 n.2.0 ∙ e)))
  where
    same_head : (ds r t : List ℕ) → t ≡ ds ++ r → 0 < length ds → (head ds == 48) ≡ (head t == 48)
    same_head [] r t at l = absurd (omega (arith, l))
    same_head (c ∷ cs) r t at l = ap (λ z. head z == 48) (sym at)

fraction : (t r : List ℕ) → after_fraction t ≡ Some r → Part fraction_text (λ f. IfSome f (IsNumeral 10)) t r
unfolding Part
fraction t r h = by_bool (head t == 46)
    (λ e.
    let n = numeral (drop 1 t) r (yes (head t == 46) (after_digits (drop 1 t)) (Some t) (Some r) e h) in
    (Some n.0, begins t 46 (λ w. omega (arith, w)) (eqb-true (head t) 46 e) ∙ ap (λ l. 46 ∷ l) n.1, n.2))
    (λ e. (None, same_Some t r (no (head t == 46) (after_digits (drop 1 t)) (Some t) (Some r) e h), tt))

sign : (t : List ℕ) → Part option_to_list (λ s. IfSome s IsSign) t (after_sign t)
unfolding Part
sign t = by_bool ((head t == 45) || (head t == 43)) (λ e. signed (or_cases (head t == 45) (head t == 43) e) (rest true e)) (λ e. (None, sym (rest false e), tt))
  where
    rest : (b : Bool) → ((head t == 45) || (head t == 43)) ≡ b → after_sign t ≡ cond b (drop 1 t) t
    rest b e = ap (λ c. cond c (drop 1 t) t) e

    signed : ((head t == 45) ≡ true) ⊎ ((head t == 43) ≡ true) → after_sign t ≡ drop 1 t → Part option_to_list (λ s. IfSome s IsSign) t (after_sign t)
    signed (inl e) left = (Some 45, begins t 45 (λ w. omega (arith, w)) (eqb-true (head t) 45 e) ∙ ap (λ l. 45 ∷ l) (sym left), inl refl)
    signed (inr e) left = (Some 43, begins t 43 (λ w. omega (arith, w)) (eqb-true (head t) 43 e) ∙ ap (λ l. 43 ∷ l) (sym left), inr refl)

exponent : (t r : List ℕ) → after_exponent t ≡ Some r → Part exponent_text (λ e. IfSome e IsExponent) t r
unfolding Part
exponent t r h = by_bool ((head t == 101) || (head t == 69))
    (λ e.
    let u = drop 1 t in
    let s = sign u in
    let n = numeral (after_sign u) r (yes ((head t == 101) || (head t == 69)) (after_digits (after_sign u)) (Some t) (Some r) e h) in
    let tail : u ≡ (option_to_list s.0 ++ n.0) ++ r = s.1 ∙ ap (λ l. option_to_list s.0 ++ l) n.1 ∙ sym (append_assoc (option_to_list s.0) n.0 r) in
    marked s.0 s.2 n.0 n.2 tail (or_cases (head t == 101) (head t == 69) e))
    (λ e. (None, same_Some t r (no ((head t == 101) || (head t == 69)) (after_digits (after_sign (drop 1 t))) (Some t) (Some r) e h), tt))
  where
    marked : (s : Option ℕ) → IfSome s IsSign → (ds : List ℕ) → IsNumeral 10 ds → drop 1 t ≡ (option_to_list s ++ ds) ++ r → ((head t == 101) ≡ true) ⊎ ((head t == 69) ≡ true) → Part exponent_text (λ e. IfSome e IsExponent) t r
    marked s sp ds dp tail (inl e) =
        (Some (record { mark = 101; sign = s; digits = ds }), begins t 101 (λ w. omega (arith, w)) (eqb-true (head t) 101 e) ∙ ap (λ l. 101 ∷ l) tail, record { mark = inl refl; sign = sp; digits = dp })
    marked s sp ds dp tail (inr e) =
        (Some (record { mark = 69; sign = s; digits = ds }), begins t 69 (λ w. omega (arith, w)) (eqb-true (head t) 69 e) ∙ ap (λ l. 69 ∷ l) tail, record { mark = inr refl; sign = sp; digits = dp })

minus : (t : List ℕ) → Part minus_text (λ m. Unit {0}) t (after_minus t)
unfolding Part
minus t = by_bool (head t == 45)
    (λ e. (true, begins t 45 (λ w. omega (arith, w)) (eqb-true (head t) 45 e) ∙ ap (λ l. 45 ∷ l) (sym (ap (λ c. cond c (drop 1 t) t) e)), tt))
    (λ e. (false, sym (ap (λ c. cond c (drop 1 t) t) e), tt))

pub number_cut : (t : List ℕ) → IsNumber t → IsDecimal t
unfolding after_number Part
number_cut t h =
    let x = some_then after_exponent (option_and_then after_fraction (after_whole (after_minus t))) [] h in
    let f = some_then after_fraction (after_whole (after_minus t)) x.0 x.1 in
    let m = minus t in
    let w = whole (after_minus t) f.0 f.1 in
    let p = fraction f.0 x.0 f.2 in
    let e = exponent x.0 [] x.2 in
    let text = m.1 ∙ ap (λ l. minus_text m.0 ++ l) (w.1 ∙ ap (λ l. w.0 ++ l) (p.1 ∙ ap (λ l. fraction_text p.0 ++ l) (e.1 ∙ append-nil (exponent_text e.0)))) in
    (record { minus = m.0; whole = w.0; fraction = p.0; exponent = e.0 }, record { text = text; well_formed = record { whole = w.2; fraction = p.2; exponent = e.2 } })
