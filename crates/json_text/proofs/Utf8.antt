-- A value's compact text is UTF-8 where its texts are, and begins with no byte order mark.
use Rattle.std.proofs.Common.{◌≡◌, ℕ, zero, suc, ◌+◌, ◌<◌, ◌≤◌, ◌/◌, ◌%◌, List, [], ◌∷◌, ◌++◌, Bool, true, false, cond}
use Rattle.std.proofs.Common.{◌&&◌, ◌||◌, ◌==◌, nat_lt, nat_eq, drop, ◌⊎◌, inl, inr, refl, sym, ap, ap₂, ◌∙◌, subst, arith, append_assoc}
use lib.Utf8.{encode, next}
use Rattle.std.proofs.lemmas.Bool.{and_parts, ltb-true}
use Rattle.std.proofs.lemmas.Str.{IsUtf8-nil, IsUtf8-append, IsUtf8-encode, IsUtf8-from_ascii, encode_ascii}
use Rattle.std.specs.List.{AllByRecursion, starts_with}
use Rattle.std.specs.Str.{IsUtf8, IsAscii, all_scalars, encode_utf8_all}
use Rattle.std.specs.Char.{encode_utf8, IsScalar}
use Rattle.exact_json.specs.Json.{Json, null, boolean, number, text, items, object, Items, no_items}
use Rattle.exact_json.specs.Json.{item, Members, no_pairs, pair, AllNumbers, AllItemNumbers, AllMemberNumbers, HasTexts, ItemsHaveTexts, MembersHaveTexts}
use Rattle.exact_json.specs.Number.{IsNumber}
use Rattle.exact_json.specs.Grammar.{bare}
use Rattle.json_text.specs.Compact.{hex_digit, escaped_byte, escaped, quoted, compact, first_items, more_items, first_pairs, more_pairs}
use Rattle.json_text.specs.Runs.{stands_as_it_is}
use Rattle.json_text.proofs.Numbers.{AllLow, low_number}
use Rattle.json_text.proofs.Runs.{unescaped}

ascii : (b : List ℕ) → AllLow b → IsAscii b
ascii [] h i = omega arith
ascii (x ∷ xs) h zero = h.0
ascii (x ∷ xs) h (suc i) = ascii xs h.1 i

low_utf8 : (b : List ℕ) → AllLow b → IsUtf8 b
low_utf8 b h = IsUtf8-from_ascii b (ascii b h)

-- an ASCII byte in front
cons_utf8 : (x : ℕ) (b : List ℕ) → x < 128 → IsUtf8 b → IsUtf8 (x ∷ b)
cons_utf8 x b low u = IsUtf8-append (x ∷ []) b (low_utf8 (x ∷ []) (low, tt)) u

-- ---- texts

digit_low : (n : ℕ) → n < 16 → hex_digit n < 128
digit_low n less = grind (arith, less)

bytes_low : (x : ℕ) (c q : Bool) → nat_lt x 32 ≡ c → x < 128 → AllLow (cond c (92 ∷ 117 ∷ 48 ∷ 48 ∷ hex_digit (x / 16) ∷ hex_digit (x % 16) ∷ []) (cond q (92 ∷ x ∷ []) (x ∷ [])))
bytes_low x true q is low =
    let less = ltb-true x 32 is in
    (omega arith, (omega arith, (omega arith, (omega arith, (digit_low (x / 16) (omega (arith, less)), (digit_low (x % 16) (omega arith), tt))))))
bytes_low x false true is low = (omega arith, (low, tt))
bytes_low x false false is low = (low, tt)

byte_low : (x : ℕ) → x < 128 → AllLow (escaped_byte x)
byte_low x low = bytes_low x (nat_lt x 32) ((x == 34) || (x == 92)) refl low

stands : (x : ℕ) → 128 ≤ x → stands_as_it_is x ≡ true
stands x high = grind (arith, high)

escaped_append : (a b : List ℕ) → escaped (a ++ b) ≡ escaped a ++ escaped b
escaped_append [] b = refl
escaped_append (x ∷ xs) b = ap (λ s. escaped_byte x ++ s) (escaped_append xs b) ∙ sym (append_assoc (escaped_byte x) (escaped xs) (escaped b))

abbrev IsHigh : ℕ → Type 0
IsHigh x = 128 ≤ x

same : (b : List ℕ) → AllByRecursion IsHigh b → escaped b ≡ b
same [] h = refl
same (x ∷ xs) h = ap₂ (λ a b. a ++ b) (unescaped x (stands x h.0)) (same xs h.1)

by_width : (c : ℕ) (one two three : Bool) → 128 ≤ c
    → AllByRecursion IsHigh (cond one (c ∷ []) (cond two ((192 + c / 64) ∷ next c ∷ [])
    (cond three ((224 + c / 4096) ∷ next (c / 64) ∷ next c ∷ []) ((240 + c / 262144) ∷ next (c / 4096) ∷ next (c / 64) ∷ next c ∷ []))))
by_width c true two three high = (high, tt)
by_width c false true three high = (omega arith, (omega arith, tt))
by_width c false false true high = (omega arith, (omega arith, (omega arith, tt)))
by_width c false false false high = (omega arith, (omega arith, (omega arith, (omega arith, tt))))

encoded_high : (c : ℕ) → 128 ≤ c → AllByRecursion IsHigh (encode c)
unfolding encode
encoded_high c high = by_width c (nat_lt c 128) (nat_lt c 2048) (nat_lt c 65536) high

-- the bytes of a character beyond ASCII
high_bytes : (c : ℕ) → 128 ≤ c → escaped (encode_utf8 c) ≡ encode_utf8 c
high_bytes c high = same (encode_utf8 c) (encoded_high c high)

escaped_char : (c : ℕ) → IsScalar c → (c < 128) ⊎ (128 ≤ c) → IsUtf8 (escaped (encode_utf8 c))
escaped_char c scalar (inl low) = subst (λ b. IsUtf8 (escaped b)) (sym (encode_ascii c low)) (IsUtf8-append (escaped_byte c) [] (low_utf8 (escaped_byte c) (byte_low c low)) IsUtf8-nil)
escaped_char c scalar (inr high) = subst IsUtf8 (sym (high_bytes c high)) (IsUtf8-encode c scalar)

low_or_high : (c : ℕ) → (c < 128) ⊎ (128 ≤ c)
low_or_high c = grind arith

escaped_chars : (cs : List ℕ) → all_scalars cs ≡ true → IsUtf8 (escaped (encode_utf8_all cs))
escaped_chars [] h = IsUtf8-nil
escaped_chars (c ∷ cs) h =
    let parts = and_parts _ _ h in
    subst IsUtf8 (sym (escaped_append (encode_utf8 c) (encode_utf8_all cs))) (IsUtf8-append (escaped (encode_utf8 c)) _ (escaped_char c parts.0 (low_or_high c)) (escaped_chars cs parts.1))

escaped_utf8 : (s : List ℕ) → IsUtf8 s → IsUtf8 (escaped s)
escaped_utf8 s h = subst (λ b. IsUtf8 (escaped b)) h.1.1 (escaped_chars h.0 h.1.0)

quoted_utf8 : (s : List ℕ) → IsUtf8 s → IsUtf8 (quoted s)
quoted_utf8 s h = cons_utf8 34 _ (omega arith) (IsUtf8-append (escaped s) (34 ∷ []) (escaped_utf8 s h) (low_utf8 (34 ∷ []) (omega arith, tt)))

-- ---- values

enclosed : (x y : ℕ) (b : List ℕ) → x < 128 → y < 128 → IsUtf8 b → IsUtf8 (x ∷ (b ++ y ∷ []))
enclosed x y b lx ly h = cons_utf8 x _ lx (IsUtf8-append b (y ∷ []) h (low_utf8 (y ∷ []) (ly, tt)))

pair_utf8 : (k : List ℕ) (j : Json) → IsUtf8 k → IsUtf8 (compact j) → IsUtf8 (quoted k ++ 58 ∷ compact j)
pair_utf8 k j hk hj = IsUtf8-append (quoted k) (58 ∷ compact j) (quoted_utf8 k hk) (cons_utf8 58 (compact j) (omega arith) hj)

mutual
  pub compact_utf8 : (v : Json) → AllNumbers IsNumber v → HasTexts v → IsUtf8 (compact v)
  compact_utf8 null n t = low_utf8 (compact null) (omega arith, (omega arith, (omega arith, (omega arith, tt))))
  compact_utf8 (boolean true) n t = low_utf8 (compact (boolean true)) (omega arith, (omega arith, (omega arith, (omega arith, tt))))
  compact_utf8 (boolean false) n t = low_utf8 (compact (boolean false)) (omega arith, (omega arith, (omega arith, (omega arith, (omega arith, tt)))))
  compact_utf8 (number d) n t = low_utf8 d (low_number d n)
  compact_utf8 (text s) n t = quoted_utf8 s t
  compact_utf8 (items js) n t = enclosed 91 93 (first_items js) (omega arith) (omega arith) (items_utf8 js n t)
  compact_utf8 (object ms) n t = enclosed 123 125 (first_pairs ms) (omega arith) (omega arith) (pairs_utf8 ms n t)

  items_utf8 : (js : Items) → AllItemNumbers IsNumber js → ItemsHaveTexts js → IsUtf8 (first_items js)
  items_utf8 no_items n t = IsUtf8-nil
  items_utf8 (item j js) n t = IsUtf8-append (compact j) (more_items js) (compact_utf8 j n.0 t.0) (more_items_utf8 js n.1 t.1)

  more_items_utf8 : (js : Items) → AllItemNumbers IsNumber js → ItemsHaveTexts js → IsUtf8 (more_items js)
  more_items_utf8 no_items n t = IsUtf8-nil
  more_items_utf8 (item j js) n t =
      cons_utf8 44 _ (omega arith) (IsUtf8-append (compact j) (more_items js) (compact_utf8 j n.0 t.0) (more_items_utf8 js n.1 t.1))

  pairs_utf8 : (ms : Members) → AllMemberNumbers IsNumber ms → MembersHaveTexts ms → IsUtf8 (first_pairs ms)
  pairs_utf8 no_pairs n t = IsUtf8-nil
  pairs_utf8 (pair k j ms) n t = IsUtf8-append (quoted k ++ 58 ∷ compact j) (more_pairs ms) (pair_utf8 k j t.0 (compact_utf8 j n.0 t.1)) (more_pairs_utf8 ms n.1 t.2)

  more_pairs_utf8 : (ms : Members) → AllMemberNumbers IsNumber ms → MembersHaveTexts ms → IsUtf8 (more_pairs ms)
  more_pairs_utf8 no_pairs n t = IsUtf8-nil
  more_pairs_utf8 (pair k j ms) n t =
      cons_utf8 44 _ (omega arith) (IsUtf8-append (quoted k ++ 58 ∷ compact j) (more_pairs ms) (pair_utf8 k j t.0 (compact_utf8 j n.0 t.1)) (more_pairs_utf8 ms n.1 t.2))

-- ---- no byte order mark

differs : (x : ℕ) → x < 128 → nat_eq 239 x ≡ false
differs x low = grind (arith, low)

low_bare : (b : List ℕ) → AllLow b → bare b ≡ b
low_bare [] h = refl
low_bare (x ∷ xs) h = ap (λ q. cond (q && starts_with nat_eq xs (187 ∷ 191 ∷ [])) (drop 2 xs) (x ∷ xs)) (differs x h.0)

pub compact_bare : (v : Json) → AllNumbers IsNumber v → bare (compact v) ≡ compact v
compact_bare null n = refl
compact_bare (boolean true) n = refl
compact_bare (boolean false) n = refl
compact_bare (number d) n = low_bare d (low_number d n)
compact_bare (text s) n = refl
compact_bare (items js) n = refl
compact_bare (object ms) n = refl
