-- A number has one spelling, which has no space and no line end.
use Rattle.std.proofs.Common.{◌≡◌, ℕ, suc, ◌+◌, ◌-◌, ◌*◌, ◌%◌, ◌^◌, ◌<◌, ◌≤◌, true, List, [], ◌∷◌, ◌++◌, length, get_or, take, drop, refl, sym, ap, subst, ◌∙◌, inl, inr, arith}
use Rattle.std.proofs.Math.Seq.{split_at, get_or-append_seam}
use Rattle.std.proofs.lemmas.List.{get_or-take, get_or_append_left, length-append, length-drop, length-take-le, take-append-le, take_all, take_at}
use Rattle.std.proofs.lemmas.Bool.Decides.{nat_tests}
use Rattle.std.proofs.lemmas.Bool.{cases_lt}
use Rattle.std.proofs.lemmas.Fmt.{decimal_by_steps, first_decimal, decimal_digit, decimal_nonempty, digits_decimal, digits_value-decimal, decimal-digits_value}
use Rattle.std.proofs.lemmas.Str.Parse.{IsNumeralModel, numerals_by_value, tells_digits, digit_at, digits_value-take-le}
use Rattle.std.proofs.lemmas.Str.{digit_value_digit}
use Rattle.std.proofs.lemmas.Int.Digits.{digits_value_more}
use Rattle.std.specs.Char.{digit_value}
use Rattle.std.specs.Str.Parse.{AllDigits, digits_value}
use Rattle.std.specs.Fmt.{decimal}
use Rattle.line_forms.specs.Lines.{word}
use Rattle.line_forms.specs.Plain.{is_plain}
use Rattle.line_forms.specs.Fronts.{Lacks}
use Rattle.line_forms.proofs.ListLemmas.{Lacks-append}

pub Lacks-decimal : (stop n : ℕ) → stop < 48 → n < 2 ^ 64 → Lacks stop (decimal n)
Lacks-decimal stop n low fits =
    decimal_by_steps (λ m ds. Lacks stop ds)
    (λ m small. (λ e. omega arith, tt))
    (λ m ds large before. Lacks-append stop ds ((48 + m % 10) ∷ []) before (λ e. omega arith, tt))
    n fits

pub own : IsNumeralModel (AllDigits 10) (digits_value 10)
own = numerals_by_value (AllDigits 10) tells_digits

plain_digit : (n : ℕ) → n < 10 → is_plain ((48 + n) ∷ []) ≡ true
plain_digit n small = grind (arith, nat_tests)

plain_high : (bs : List ℕ) → 0 < length bs → 48 < get_or bs 0 0 → is_plain bs ≡ true
plain_high bs some high = grind (arith, nat_tests)

pub decimal_plain : (n : ℕ) → n < 2 ^ 64 → is_plain (decimal n) ≡ true
decimal_plain n fits =
    elim (cases_lt n 10) [
      | inl small ↦ ap is_plain (decimal_digit n small) ∙ plain_digit n small
      | inr large ↦ plain_high (decimal n) (decimal_nonempty n fits) (first_decimal n (omega arith) fits)
    ]

pub plain_parts : (bs : List ℕ) → is_plain bs ≡ true → (0 < length bs) × (get_or bs 0 0 ≡ 48 → length bs ≡ 1)
plain_parts bs h = (grind (arith, nat_tests), λ e. grind (arith, nat_tests))

-- each byte of a number is a digit
pub no_digit : (bs : List ℕ) (n i : ℕ) → n < 2 ^ 64 → bs ≡ decimal n → i < length bs → 10 ≤ digit_value (get_or bs i 0) → ⊥
no_digit bs n i fits e within high =
    let digits : AllDigits 10 bs = subst (AllDigits 10) (sym e) (digits_decimal own n fits) in
    let range = digit_at bs i digits within in
    omega (arith, range.0, range.1, digit_value_digit (get_or bs i 0) range)

-- the first digits of a number are no more than the number
pub too_large : (bs : List ℕ) (n i : ℕ) → n < 2 ^ 64 → bs ≡ decimal n → i < length bs → 2 ^ 64 ≤ digits_value 10 (take i bs) * 10 + digit_value (get_or bs i 0) → ⊥
too_large bs n i fits e within high =
    let value : digits_value 10 bs ≡ n = ap (digits_value 10) e ∙ digits_value-decimal own n fits in
    omega (arith, value, digits_value_more 10 bs i within, digits_value-take-le 10 bs (i + 1) (omega arith))

pub plain_number : (bs : List ℕ) → is_plain bs ≡ true → AllDigits 10 bs → digits_value 10 bs < 2 ^ 64 → bs ≡ decimal (digits_value 10 bs)
plain_number bs plain digits fits =
    let parts = plain_parts bs plain in
    sym (decimal-digits_value own bs digits parts.0 parts.1 fits)

-- ---- a number before a space

at_space : (text rest : List ℕ) (n i : ℕ) → text ≡ word (decimal n) rest → i ≡ length (decimal n) → get_or text i 0 ≡ 32
at_space text rest n i e is = ap (λ (t : List ℕ). get_or t i 0) e ∙ ap (λ (k : ℕ). get_or (word (decimal n) rest) k 0) is ∙ get_or-append_seam (decimal n) 32 rest 0

at_digit : (text rest : List ℕ) (n i : ℕ) → text ≡ word (decimal n) rest → i < length (decimal n) → get_or text i 0 ≡ get_or (decimal n) i 0
at_digit text rest n i e within = ap (λ (t : List ℕ). get_or t i 0) e ∙ get_or_append_left (decimal n) (32 ∷ rest) 0 i within

-- the digits at the front of such a text are no more than the number has
pub front_within : (text rest : List ℕ) (n i : ℕ) → text ≡ word (decimal n) rest → i ≤ length text → AllDigits 10 (take i text) → i ≤ length (decimal n)
front_within text rest n i e within digits =
    elim (cases_lt (length (decimal n)) i) [
      | inl under ↦
          let range = digit_at (take i text) (length (decimal n)) digits (omega (arith, length-take-le i text within)) in
          absurd (omega (arith, range.0, get_or-take i text (length (decimal n)) 0 under, at_space text rest n (length (decimal n)) e refl))
      | inr over ↦ over
    ]

pub no_digit_word : (text rest : List ℕ) (n i : ℕ) → n < 2 ^ 64 → text ≡ word (decimal n) rest → i < length text → AllDigits 10 (take i text)
    → 10 ≤ digit_value (get_or text i 0) → (get_or text i 0 ≡ 32 → ⊥) → ⊥
no_digit_word text rest n i fits e within digits high other =
    elim (cases_lt i (length (decimal n))) [
      | inl under ↦ no_digit (decimal n) n i fits refl under (subst (λ (b : ℕ). 10 ≤ digit_value b) (at_digit text rest n i e under) high)
      | inr over ↦ other (at_space text rest n i e (omega (arith, front_within text rest n i e (omega arith) digits)))
    ]

pub too_large_word : (text rest : List ℕ) (n i : ℕ) → n < 2 ^ 64 → text ≡ word (decimal n) rest → i < length text → AllDigits 10 (take (i + 1) text)
    → 2 ^ 64 ≤ digits_value 10 (take i text) * 10 + digit_value (get_or text i 0) → ⊥
too_large_word text rest n i fits e within digits high =
    let under : i < length (decimal n) = omega (arith, front_within text rest n (i + 1) e (omega arith) digits) in
    let front : take i text ≡ take i (decimal n) = ap (take i) e ∙ take-append-le i (decimal n) (32 ∷ rest) (omega arith) in
    too_large (decimal n) n i fits refl under
    (subst (λ (b : ℕ). 2 ^ 64 ≤ digits_value 10 (take i (decimal n)) * 10 + digit_value b) (at_digit text rest n i e under)
    (subst (λ (t : List ℕ). 2 ^ 64 ≤ digits_value 10 t * 10 + digit_value (get_or text i 0)) front high))

pub no_space_word : (text rest : List ℕ) (n : ℕ) → text ≡ word (decimal n) rest → AllDigits 10 text → ⊥
no_space_word text rest n e digits =
    omega (arith, front_within text rest n (length text) e (omega arith) (subst (AllDigits 10) (sym (take_all (length text) text (omega arith))) digits), ap (length {A = ℕ}) e, length-append (decimal n) (32 ∷ rest))

-- before the first space stands the number
pub front_word : (text rest : List ℕ) (n i : ℕ) → n < 2 ^ 64 → text ≡ word (decimal n) rest → i < length text → AllDigits 10 (take i text) → get_or text i 0 ≡ 32 → take i text ≡ decimal n
front_word text rest n i fits e within digits space =
    elim (cases_lt i (length (decimal n))) [
      | inl under ↦
          let range = digit_at (decimal n) i (digits_decimal own n fits) under in
          absurd (omega (arith, range.0, space, at_digit text rest n i e under))
      | inr over ↦
          let is : i ≡ length (decimal n) = omega (arith, front_within text rest n i e (omega arith) digits) in
          ap (take i) e ∙ take_at (decimal n) (32 ∷ rest) i (sym is)
    ]

pub word_read : (text : List ℕ) (i : ℕ) → i < length text → is_plain (take i text) ≡ true → AllDigits 10 (take i text) → get_or text i 0 ≡ 32 → digits_value 10 (take i text) < 2 ^ 64
    → text ≡ word (decimal (digits_value 10 (take i text))) (drop (i + 1) text)
word_read text i within plain digits space fits =
    let next : suc i ≡ i + 1 = omega arith in
    split_at text i 0 within
    ∙ ap (λ (k : ℕ). take i text ++ get_or text i 0 ∷ drop k text) next
    ∙ ap (λ (b : ℕ). take i text ++ b ∷ drop (i + 1) text) space
    ∙ ap (λ (t : List ℕ). t ++ 32 ∷ drop (i + 1) text) (plain_number (take i text) plain digits fits)

pub rest_all : (k : ℕ) (text : List ℕ) → take (length text - k) (drop k text) ≡ drop k text
rest_all k text = take_all (length text - k) (drop k text) (omega (arith, length-drop k text))
