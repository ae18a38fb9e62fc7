-- What stands between quotes is a string, and stands for the text.
use Rattle.std.proofs.Common.{◌≡◌, ◌≢◌, ◌≤◌, ℕ, zero, suc, ◌<◌, ◌/◌, ◌%◌, List, [], ◌∷◌, ◌++◌, map, Bool, true}
use Rattle.std.proofs.Common.{false, cond, ◌&&◌, ◌||◌, ◌==◌, nat_lt, ◌⊎◌, inl, inr, refl, sym, ap, ap₂, ◌∙◌, subst, arith}
use Rattle.std.proofs.lemmas.Bool.{and_parts, eqb-true, ltb-true}
use Rattle.std.proofs.lemmas.Str.{encode_ascii}
use Rattle.std.specs.List.{AllByRecursion, flat_map}
use Rattle.std.specs.Char.{encode_utf8, is_digit}
use Rattle.exact_json.specs.Strings.{Char, unescaped, short, unit, char_bytes, short_escape, IsChar, unit_of, is_high, is_low, character_of, alone, chars_text, IsText}
use Rattle.json_text.specs.Compact.{hex_digit, escaped_byte, escaped, quoted}

-- a char that stands for the byte x alone, and how it is spelled
record Writes (x : ℕ) (c : Char) (b : List ℕ) : Type 0 where
  spelled : b ≡ char_bytes c
  char : IsChar c
  value : alone c ≡ x ∷ []
  whole : is_high (unit_of c) ≡ false

-- ---- controls

abbrev escape_of : ℕ → Char
escape_of x = unit 48 48 (hex_digit (x / 16)) (hex_digit (x % 16))

-- the two digits of the byte are digits, and spell it
abbrev is_spelled : ℕ → Bool
is_spelled x = (is_digit (hex_digit (x / 16)) 16 && is_digit (hex_digit (x % 16)) 16) && (unit_of (escape_of x) == x)

abbrev all_below : (ℕ → Bool) → ℕ → Bool
all_below p zero = true
all_below p (suc n) = p n && all_below p n

last_or_less : (x n : ℕ) → x < suc n → (x ≡ n) ⊎ (x < n)
last_or_less x n less = grind (arith, less)

holds_below : (p : ℕ → Bool) (n x : ℕ) → all_below p n ≡ true → x < n → p x ≡ true
holds_below p zero x h less = absurd (omega (arith, less))
holds_below p (suc n) x h less =
    elim (last_or_less x n less) [ inl e ↦ ap p e ∙ (and_parts _ _ h).0 | inr l ↦ holds_below p n x (and_parts _ _ h).1 l ]

all_spelled : all_below is_spelled 32 ≡ true
all_spelled = refl

no_high : (x : ℕ) → x < 32 → is_high x ≡ false
no_high x less = grind (arith, less)

no_half : (x : ℕ) → x < 32 → (is_high x || is_low x) ≡ false
no_half x less = grind (arith, less)

control : (x : ℕ) → x < 32 → Writes x (escape_of x) (92 ∷ 117 ∷ 48 ∷ 48 ∷ hex_digit (x / 16) ∷ hex_digit (x % 16) ∷ [])
control x less =
    let parts = and_parts _ _ (holds_below is_spelled 32 x all_spelled less) in
    let digits = and_parts _ _ parts.0 in
    let is : unit_of (escape_of x) ≡ x = eqb-true _ _ parts.1 in
    record {
      spelled = refl;
      char = (refl, refl, digits.0, digits.1);
      value = ap (λ u. encode_utf8 (cond (is_high u || is_low u) 0xfffd u)) is ∙ ap (λ q. encode_utf8 (cond q 0xfffd x)) (no_half x less) ∙ encode_ascii x (omega (arith, less));
      whole = ap is_high is ∙ no_high x less;
    }

-- ---- the other bytes

quote : Writes 34 (short 34) (92 ∷ 34 ∷ [])
unfolding short_escape
quote = record { spelled = refl; char = refl; value = encode_ascii 34 (omega arith); whole = refl }

backslash : Writes 92 (short 92) (92 ∷ 92 ∷ [])
unfolding short_escape
backslash = record { spelled = refl; char = refl; value = encode_ascii 92 (omega arith); whole = refl }

abbrev char_by : Bool → Bool → Bool → ℕ → Char
char_by control quote backslash x = cond control (escape_of x) (cond (quote || backslash) (short x) (unescaped x))

abbrev bytes_by : Bool → Bool → Bool → ℕ → List ℕ
bytes_by control quote backslash x =
    cond control (92 ∷ 117 ∷ 48 ∷ 48 ∷ hex_digit (x / 16) ∷ hex_digit (x % 16) ∷ []) (cond (quote || backslash) (92 ∷ x ∷ []) (x ∷ []))

ge : (x n : ℕ) → nat_lt x n ≡ false → n ≤ x
ge x n h = grind (arith, h)

not_at : (x n : ℕ) → (x == n) ≡ false → x ≢ n
not_at x n h e = grind (arith, h, e)

by_tests : (x : ℕ) (c q b : Bool) → nat_lt x 32 ≡ c → (x == 34) ≡ q → (x == 92) ≡ b → Writes x (char_by c q b x) (bytes_by c q b x)
by_tests x true q b is_c is_q is_b = control x (ltb-true x 32 is_c)
by_tests x false true b is_c is_q is_b = subst (λ n. Writes n (short n) (92 ∷ n ∷ [])) (sym (eqb-true x 34 is_q)) quote
by_tests x false false true is_c is_q is_b = subst (λ n. Writes n (short n) (92 ∷ n ∷ [])) (sym (eqb-true x 92 is_b)) backslash
by_tests x false false false is_c is_q is_b =
    record { spelled = refl; char = record { no_control = ge x 32 is_c; no_quote = not_at x 34 is_q; no_backslash = not_at x 92 is_b }; value = refl; whole = refl }

abbrev char_of : ℕ → Char
char_of x = char_by (nat_lt x 32) (x == 34) (x == 92) x

writes : (x : ℕ) → Writes x (char_of x) (escaped_byte x)
writes x = by_tests x (nat_lt x 32) (x == 34) (x == 92) refl refl refl

-- ---- texts

spelled : (s : List ℕ) → escaped s ≡ flat_map char_bytes (map char_of s)
spelled [] = refl
spelled (x ∷ xs) = ap₂ (λ a b. a ++ b) (writes x).spelled (spelled xs)

well_formed : (s : List ℕ) → AllByRecursion IsChar (map char_of s)
well_formed [] = tt
well_formed (x ∷ xs) = ((writes x).char, well_formed xs)

value : (s : List ℕ) → chars_text (map char_of s) ≡ s
unfolding chars_text
value [] = refl
value (x ∷ []) = (writes x).value
value (x ∷ y ∷ ys) =
    let c = char_of x in
    let d = char_of y in
    let more = chars_text (map char_of (y ∷ ys)) in
    ap (λ q. cond (q && is_low (unit_of d)) (encode_utf8 (character_of (unit_of c) (unit_of d)) ++ chars_text (map char_of ys)) (alone c ++ more)) (writes x).whole
    ∙ ap₂ (λ a b. a ++ b) (writes x).value (value (y ∷ ys))

pub is_text : (s : List ℕ) → IsText s (quoted s)
is_text s = record {
  chars = map char_of s;
  spelled = ap (λ b. 34 ∷ (b ++ 34 ∷ [])) (spelled s);
  well_formed = well_formed s;
  value = sym (value s);
}
