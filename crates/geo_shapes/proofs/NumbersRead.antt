-- What is a number by its parts is read as one by JSON.
use Rattle.std.proofs.Common.{◌≡◌, ℕ, suc, ◌+◌, ◌<◌, ◌≤◌, Bool, true, false, cond, ◌||◌, ◌==◌, ◌∙◌, List, [], ◌∷◌, ◌++◌, drop, length, Option, Some, None, IfSome, option_and_then, inl, inr, refl, sym, ap, ap₂, arith}
use Rattle.std.proofs.lemmas.Bool.{ne_eqb, le-leb, and_from}
use Rattle.std.proofs.lemmas.List.{append-nil}
use Rattle.std.specs.List.{prefix_len}
use Rattle.std.specs.Option.{option_to_list}
use Rattle.std.specs.Char.{is_ascii_digit, digit_value}
use Rattle.std.specs.Str.Parse.{AllDigits, IsNumeral}
use Rattle.std.proofs.lemmas.Str.Parse.{digit_from_value}
use Rattle.exact_json.specs.Number.{head, after_digits, after_minus, after_sign, after_whole, after_fraction, after_exponent, after_number, IsNumber}
use Rattle.geo_decimal.specs.Number.{Exponent, Number, minus_text, fraction_text, exponent_text, spelling, IsWhole, IsMark, IsSign, IsExponent, IsWellFormed, IsNumber as IsDecimal}

NoDigit : List ℕ → Type 0
NoDigit r = prefix_len is_ascii_digit r ≡ 0

digit_test : (c : ℕ) (cs : List ℕ) → AllDigits 10 (c ∷ cs) → is_ascii_digit c ≡ true
digit_test c cs h = let r = digit_from_value c h.0 in and_from _ _ (le-leb 48 c r.0) (le-leb c 57 r.1)

run : (ds r : List ℕ) → AllDigits 10 ds → NoDigit r → prefix_len is_ascii_digit (ds ++ r) ≡ length ds
unfolding NoDigit
run [] r h n = n
run (c ∷ cs) r h n = let more : 1 + length cs ≡ suc (length cs) = omega arith in ap₂ (λ d k. cond d (1 + k) 0) (digit_test c cs h) (run cs r h.1 n) ∙ more

behind : (ds r : List ℕ) → drop (length ds) (ds ++ r) ≡ r
behind [] r = refl
behind (c ∷ cs) r = behind cs r

numeral : (ds r : List ℕ) → IsNumeral 10 ds → NoDigit r → after_digits (ds ++ r) ≡ Some r
numeral ds r h n = ap (λ k. cond (k == 0) None (Some (drop k (ds ++ r)))) (run ds r h.1 n) ∙ ap (λ d. cond d None (Some (drop (length ds) (ds ++ r)))) (some_digit (length ds) h.0) ∙ ap Some (behind ds r)
  where
    some_digit : (k : ℕ) → 0 < k → (k == 0) ≡ false
    some_digit k h = ne_eqb k 0 (λ e. omega (arith, h, e))

whole : (w r : List ℕ) → IsWhole w → NoDigit r → after_whole (w ++ r) ≡ Some r
whole [] r h n = elim h [ ]
whole (c ∷ cs) r (inl e) n = ap₂ (λ d ds. after_whole (d ∷ (ds ++ r))) e.0 e.1
whole (c ∷ cs) r (inr p) n =
    ap (λ b. cond b (Some (cs ++ r)) (after_digits (c ∷ (cs ++ r)))) (ne_eqb c 48 (λ e. omega (arith, p.0, e))) ∙ numeral (c ∷ cs) r (omega arith, (first c p.0 p.1, p.2)) n
  where
    first : (c : ℕ) → 49 ≤ c → c ≤ 57 → digit_value c < 10
    first c l g = grind (arith, l, g)

-- what may stand behind the whole part
fraction : (f : Option (List ℕ)) (r : List ℕ) → IfSome f (IsNumeral 10) → NoDigit r → (head r == 46) ≡ false → after_fraction (fraction_text f ++ r) ≡ Some r
fraction None r h n e = ap (λ b. cond b (after_digits (drop 1 r)) (Some r)) e
fraction (Some ds) r h n e = numeral ds r h n

signed : (s : Option ℕ) (ds : List ℕ) → IfSome s IsSign → IsNumeral 10 ds → after_sign (option_to_list s ++ ds) ≡ ds
signed None [] p h = absurd (omega (arith, h.0))
signed None (c ∷ cs) p h =
    let r = digit_from_value c h.1.0 in
    ap₂ (λ a b. cond (a || b) cs (c ∷ cs)) (ne_eqb c 45 (λ e. omega (arith, r.0, e))) (ne_eqb c 43 (λ e. omega (arith, r.0, e)))
signed (Some s) ds (inl e) h = ap (λ c. after_sign (c ∷ ds)) e
signed (Some s) ds (inr e) h = ap (λ c. after_sign (c ∷ ds)) e

exponent_of : (e : Exponent) → IsExponent e → after_digits (after_sign (option_to_list e.sign ++ e.digits)) ≡ Some []
unfolding NoDigit
exponent_of e h = ap after_digits (signed e.sign e.digits h.sign h.digits ∙ sym (append-nil e.digits)) ∙ numeral e.digits [] h.digits refl

exponent : (e : Option Exponent) → IfSome e IsExponent → after_exponent (exponent_text e) ≡ Some []
exponent None h = refl
exponent (Some e) h = by_mark h.mark
  where
    by_mark : (m : IsMark e.mark) → after_exponent (exponent_text (Some e)) ≡ Some []
    by_mark (inl m) = ap (λ c. after_exponent (c ∷ (option_to_list e.sign ++ e.digits))) m ∙ exponent_of e h
    by_mark (inr m) = ap (λ c. after_exponent (c ∷ (option_to_list e.sign ++ e.digits))) m ∙ exponent_of e h

no_digit_mark : (e : Option Exponent) → IfSome e IsExponent → NoDigit (exponent_text e) × ((head (exponent_text e) == 46) ≡ false)
unfolding NoDigit
no_digit_mark None h = (refl, refl)
no_digit_mark (Some e) h = by_mark h.mark
  where
    tail : List ℕ
    tail = option_to_list e.sign ++ e.digits

    by_mark : IsMark e.mark → (prefix_len is_ascii_digit (exponent_text (Some e)) ≡ 0) × ((head (exponent_text (Some e)) == 46) ≡ false)
    by_mark (inl m) = (ap (λ c. prefix_len is_ascii_digit (c ∷ (option_to_list e.sign ++ e.digits))) m, ap (λ c. c == 46) m)
    by_mark (inr m) = (ap (λ c. prefix_len is_ascii_digit (c ∷ (option_to_list e.sign ++ e.digits))) m, ap (λ c. c == 46) m)

no_digit_point : (f : Option (List ℕ)) (r : List ℕ) → NoDigit r → NoDigit (fraction_text f ++ r)
unfolding NoDigit
no_digit_point None r h = h
no_digit_point (Some ds) r h = refl

unsigned : (m : Bool) (w r : List ℕ) → IsWhole w → after_minus (minus_text m ++ (w ++ r)) ≡ w ++ r
unsigned true w r h = refl
unsigned false [] r h = elim h [ ]
unsigned false (c ∷ cs) r (inl e) = ap (λ b. cond b (cs ++ r) (c ∷ (cs ++ r))) (ne_eqb c 45 (λ q. omega (arith, q, e.0)))
unsigned false (c ∷ cs) r (inr p) = ap (λ b. cond b (cs ++ r) (c ∷ (cs ++ r))) (ne_eqb c 45 (λ q. omega (arith, q, p.0)))

parts_read : (n : Number) → IsWellFormed n → after_number (spelling n) ≡ Some []
unfolding after_number
parts_read n h =
    let e = no_digit_mark n.exponent h.exponent in
    let behind_whole = fraction_text n.fraction ++ exponent_text n.exponent in
    ap (λ u. option_and_then after_exponent (option_and_then after_fraction (after_whole u))) (unsigned n.minus n.whole behind_whole h.whole)
    ∙ ap (λ o. option_and_then after_exponent (option_and_then after_fraction o)) (whole n.whole behind_whole h.whole (no_digit_point n.fraction (exponent_text n.exponent) e.0))
    ∙ ap (λ o. option_and_then after_exponent o) (fraction n.fraction (exponent_text n.exponent) h.fraction e.0 e.1) ∙ exponent n.exponent h.exponent

pub number_read : (t : List ℕ) → IsDecimal t → IsNumber t
number_read t (n, s) = ap after_number s.text ∙ parts_read n s.well_formed
