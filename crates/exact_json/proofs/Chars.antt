-- A string by its chars, and the code's own way through it, are one.
use Rattle.std.proofs.Common.{◌≡◌, ◌≢◌, ℕ, zero, suc, ◌<◌, ◌≤◌, Bool, true, false, cond, ◌&&◌, ◌||◌, ◌==◌, ◌∙◌, List, [], ◌∷◌, ◌++◌, drop, length, nat_lt, Option, Some, None, IsSome, is_some, unwrap_or, option_map, option_and_then, refl, sym, ap, ap₂, subst, arith, length-drop}
use Rattle.std.proofs.lemmas.Bool.{false≢true, eq-eqb, eqb-true, ne_eqb, and_parts}
use Rattle.std.proofs.lemmas.List.{append-nil}
use Rattle.std.specs.List.{AllByRecursion, flat_map}
use Rattle.std.specs.Char.{encode_utf8, is_digit}
use Rattle.exact_json.specs.Number.{head}
use Rattle.exact_json.specs.Strings.{Char, unescaped, short, unit, char_bytes, short_escape, AreHex, IsChar, unit_of, is_high, is_low, is_pair, character_of, alone, chars_text, IsText}
use Rattle.exact_json.specs.StringReading.{text_at, prepend, escape, code_unit, low_next, unit_escape, after_high, IsTextAt}
use Rattle.exact_json.proofs.Texts.{by_bool, none_some, then_some, taken_off, parts, by_first, first, escaped, pick_third, pick_last, text_at-drop, text_at-quote, text_at-escape, escape_u, escape_short, low_is, low_of}
use Rattle.exact_json.proofs.Escapes.{escape_forms}

-- what stands behind the quotation mark
abbrev pub body : List Char → List ℕ
body cs = flat_map char_bytes cs ++ 34 ∷ []

IsRead : List Char → List ℕ → Type 0
IsRead cs t = text_at 0 (body cs) ≡ Some (t, [])

-- ---- one char

some_from : {A : Type 0} (o : Option A) → IsSome o → (x : A) × (o ≡ Some x)
some_from None h = absurd (false≢true h)
some_from (Some x) h = (x, refl)

no_u : (x : ℕ) → IsSome (short_escape x) → (x == 117) ≡ false
unfolding short_escape
no_u x h = by_bool (x == 117) (λ e. absurd (false≢true (sym (ap (λ y. is_some (short_escape y)) (eqb-true x 117 e)) ∙ h))) (λ e. e)

and_four : (a b c d : Bool) → a ≡ true → b ≡ true → c ≡ true → d ≡ true → (a && b && c && d) ≡ true
and_four a b c d p q r s = ap₂ (λ x y. x && y) (ap₂ (λ x y. x && y) (ap₂ (λ x y. x && y) p q) r) s

hex_unit : (a b c d : ℕ) (rest : List ℕ) → AreHex a b c d → code_unit (a ∷ b ∷ c ∷ d ∷ rest) ≡ Some (unit_of (unit a b c d))
unfolding code_unit
hex_unit a b c d rest h = ap (λ q. cond q (Some (unit_of (unit a b c d))) None) (and_four (is_digit a 16) (is_digit b 16) (is_digit c 16) (is_digit d 16) h.0 h.1 h.2 h.3)

escaped_unit : (a b c d : ℕ) (rest : List ℕ) → AreHex a b c d → escape (117 ∷ a ∷ b ∷ c ∷ d ∷ rest) ≡ Some (unit_escape (a ∷ b ∷ c ∷ d ∷ rest) (unit_of (unit a b c d)))
escaped_unit a b c d rest h = escape_u 117 (a ∷ b ∷ c ∷ d ∷ rest) refl ∙ ap (option_map (unit_escape (a ∷ b ∷ c ∷ d ∷ rest))) (hex_unit a b c d rest h)

-- a code unit that is no half of a pair
alone_unit : (v : List ℕ) (u : ℕ) → (is_high u ≡ true → low_next (drop 4 v) ≡ None) → ◌≡◌ {A = ℕ × ℕ} (unit_escape v u) (cond (is_high u || is_low u) 0xfffd u, 5)
alone_unit v u none = by_bool (is_high u)
    (λ t. ap (λ q. cond q (after_high u (low_next (drop 4 v))) (cond (is_low u) (0xfffd, 5) (u, 5))) t ∙ ap (after_high u) (none t) ∙ sym (ap (λ q. (cond (q || is_low u) 0xfffd u, 5)) t))
    (λ f. ap (λ q. cond q (after_high u (low_next (drop 4 v))) (cond (is_low u) (0xfffd, 5) (u, 5))) f ∙ inside (is_low u) ∙ sym (ap (λ q. (cond (q || is_low u) 0xfffd u, 5)) f))
  where
    inside : (l : Bool) → ◌≡◌ {A = ℕ × ℕ} (cond l (0xfffd, 5) (u, 5)) (cond l 0xfffd u, 5)
    inside true = refl
    inside false = refl

pair_unit : (v : List ℕ) (u l : ℕ) → is_high u ≡ true → low_next (drop 4 v) ≡ Some l → ◌≡◌ {A = ℕ × ℕ} (unit_escape v u) (character_of u l, 11)
pair_unit v u l t is = ap (λ q. cond q (after_high u (low_next (drop 4 v))) (cond (is_low u) (0xfffd, 5) (u, 5))) t ∙ ap (after_high u) is

-- the code unit of the first char
first_unit : List Char → ℕ
first_unit [] = 0
first_unit (c ∷ cs) = unit_of c

low_if : ℕ → Option ℕ
low_if u = cond (is_low u) (Some u) None

-- a low surrogate comes next exactly where the first char is one
low_first : (cs : List Char) → AllByRecursion IsChar cs → low_next (body cs) ≡ low_if (first_unit cs)
unfolding first_unit low_if low_of
low_first [] h = refl
low_first (unescaped x ∷ cs) h = ap (λ q. cond (q && (head (body cs) == 117)) (low_of (code_unit (drop 1 (body cs)))) None) (ne_eqb x 92 h.0.no_backslash)
low_first (short x ∷ cs) h = low_is 92 x (body cs) ∙ ap (λ q. cond q (low_of (code_unit (body cs))) None) (no_u x h.0)
low_first (unit a b c d ∷ cs) h = low_is 92 117 (a ∷ b ∷ c ∷ d ∷ body cs) ∙ ap low_of (hex_unit a b c d (body cs) h.0)

-- a char that is no half of a pair, in front of what is read
single : (c : Char) (cs : List Char) (t : List ℕ) → IsChar c → (is_high (unit_of c) ≡ true → low_next (body cs) ≡ None) → IsRead cs t → IsRead (c ∷ cs) (alone c ++ t)
unfolding IsRead by_first
single (unescaped x) cs t h none is =
    first x (body cs) ∙ pick_last (x == 34) (x == 92) (nat_lt x 32) _ _ _ _ (ne_eqb x 34 h.no_quote) (ne_eqb x 92 h.no_backslash) (no_less x h.no_control) ∙ ap (prepend (x ∷ [])) is
  where
    no_less : (x : ℕ) → 32 ≤ x → nat_lt x 32 ≡ false
    no_less x le = grind (arith, le)
single (short x) cs t h none is =
    let v = some_from (short_escape x) h in
    text_at-escape (92 ∷ x ∷ body cs) (v.0, 1) refl (escape_short x (body cs) (no_u x h) ∙ ap (option_map (λ c. (c, 1))) v.1) ∙ ap (prepend (encode_utf8 v.0)) is
    ∙ ap (λ o. Some (encode_utf8 (unwrap_or o 0) ++ t, [])) (sym v.1)
single (unit a b c d) cs t h none is =
    let u = unit_of (unit a b c d) in
    text_at-escape (92 ∷ 117 ∷ a ∷ b ∷ c ∷ d ∷ body cs) (cond (is_high u || is_low u) 0xfffd u, 5) refl (escaped_unit a b c d (body cs) h ∙ ap Some (alone_unit (a ∷ b ∷ c ∷ d ∷ body cs) u none))
    ∙ ap (prepend (encode_utf8 (cond (is_high u || is_low u) 0xfffd u))) is

-- a surrogate pair in front of what is read
paired : (c d : Char) (cs : List Char) (t : List ℕ) → IsChar c → IsChar d → AllByRecursion IsChar cs → is_pair c d ≡ true → IsRead cs t → IsRead (c ∷ d ∷ cs) (encode_utf8 (character_of (unit_of c) (unit_of d)) ++ t)
unfolding IsRead low_if first_unit
paired (unescaped x) d cs t h g more p is = absurd (false≢true p)
paired (short x) d cs t h g more p is = absurd (false≢true p)
paired (unit a b c e) (unescaped x) cs t h g more p is = absurd (false≢true (and_parts (is_high (unit_of (unit a b c e))) false p).1)
paired (unit a b c e) (short x) cs t h g more p is = absurd (false≢true (and_parts (is_high (unit_of (unit a b c e))) false p).1)
paired (unit a b c e) (unit i j k l) cs t h g more p is =
    let u = unit_of (unit a b c e) in
    let w = unit_of (unit i j k l) in
    let q = and_parts (is_high u) (is_low w) p in
    let low = low_first (unit i j k l ∷ cs) (g, more) ∙ ap (λ z. cond z (Some w) None) q.1 in
    text_at-escape (92 ∷ 117 ∷ a ∷ b ∷ c ∷ e ∷ body (unit i j k l ∷ cs)) (character_of u w, 11) refl (escaped_unit a b c e (body (unit i j k l ∷ cs)) h ∙ ap Some (pair_unit (a ∷ b ∷ c ∷ e ∷ body (unit i j k l ∷ cs)) u w q.0 low))
    ∙ ap (prepend (encode_utf8 (character_of u w))) is

-- ---- chars

not_both : (c d : Char) → is_pair c d ≡ false → is_high (unit_of c) ≡ true → is_low (unit_of d) ≡ false
not_both c d p h = sym (ap (λ q. q && is_low (unit_of d)) h) ∙ p

chars_read : (cs : List Char) → AllByRecursion IsChar cs → IsRead cs (chars_text cs)
unfolding IsRead chars_text low_if first_unit
chars_read [] h = text_at-quote (34 ∷ []) refl
chars_read (c ∷ []) h = subst (IsRead (c ∷ [])) (append-nil (alone c)) (single c [] [] h.0 (λ t. refl) (text_at-quote (34 ∷ []) refl))
chars_read (c ∷ d ∷ cs) h = by_bool (is_pair c d)
    (λ p. subst (IsRead (c ∷ d ∷ cs)) (sym (ap (λ q. cond q (encode_utf8 (character_of (unit_of c) (unit_of d)) ++ chars_text cs) (alone c ++ chars_text (d ∷ cs))) p))
    (paired c d cs (chars_text cs) h.0 h.1.0 h.1.1 p (chars_read cs h.1.1)))
    (λ p. subst (IsRead (c ∷ d ∷ cs)) (sym (ap (λ q. cond q (encode_utf8 (character_of (unit_of c) (unit_of d)) ++ chars_text cs) (alone c ++ chars_text (d ∷ cs))) p))
    (single c (d ∷ cs) (chars_text (d ∷ cs)) h.0 (λ t. low_first (d ∷ cs) h.1 ∙ ap (λ q. cond q (Some (unit_of d)) None) (not_both c d p t)) (chars_read (d ∷ cs) h.1)))

-- a string by its chars is read as its text
pub to_reading : (s b : List ℕ) → IsText s b → IsTextAt s b
unfolding IsRead
to_reading s b h = (body h.chars, h.spelled, chars_read h.chars h.well_formed ∙ ap (λ t. Some (t, [])) (sym h.value))

-- ---- and back

Chars : List ℕ → Type 0
Chars b = (cs : List Char) × (b ≡ body cs) × AllByRecursion IsChar cs

-- an escape is one char or two
Continues : List ℕ → ℕ × ℕ → Type 0
Continues xs e = (cs : List Char) → AllByRecursion IsChar cs → drop e.1 xs ≡ body cs → Chars (92 ∷ xs)

escape_chars : (xs : List ℕ) (e : ℕ × ℕ) → escape xs ≡ Some e → Continues xs e
unfolding Continues Chars
escape_chars = escape_forms Continues
    (λ x w c is low s cs h at. (short x ∷ cs, ap (λ l. 92 ∷ x ∷ l) at, (ap is_some is, h)))
    (λ a b c d w u hex s cs h at. (unit a b c d ∷ cs, ap (λ l. 92 ∷ 117 ∷ a ∷ b ∷ c ∷ d ∷ l) at, (hex, h)))
    (λ a b c d i j k l w u hex more s cs h at. (unit a b c d ∷ unit i j k l ∷ cs, ap (λ z. 92 ∷ 117 ∷ a ∷ b ∷ c ∷ d ∷ 92 ∷ 117 ∷ i ∷ j ∷ k ∷ l ∷ z) at, (hex, (more, h))))

no_test : (x c : ℕ) → (x == c) ≡ false → x ≢ c
no_test x c h e = false≢true (sym h ∙ eq-eqb x c e)

at_least : (x : ℕ) → nat_lt x 32 ≡ false → 32 ≤ x
at_least x h = grind (arith, h)

chars_of : (n : ℕ) (b s : List ℕ) → length b < n → text_at 0 b ≡ Some (s, []) → Chars b
unfolding Chars Continues by_first text_at
chars_of zero b s less h = absurd (omega (arith, less))
chars_of (suc n) [] s less h = absurd (none_some h)
chars_of (suc n) (x ∷ xs) s less h = by_bool (x == 34)
    (λ q.
    let here = first x xs ∙ ap (λ b. cond b (Some ([], xs)) (cond (x == 92) (option_and_then (λ e. prepend (encode_utf8 e.0) (text_at e.1 xs)) (escape xs)) (cond (nat_lt x 32) None (prepend (x ∷ []) (text_at zero xs))))) q in
    ([], ap₂ (λ y ys. y ∷ ys) (eqb-true x 34 q) (parts [] xs s [] (sym here ∙ h)).1, tt))
    (λ q. by_bool (x == 92)
    (λ w.
    let here = ap (λ z. text_at 0 (z ∷ xs)) (eqb-true x 92 w) ∙ escaped xs in
    let esc = then_some (λ e. prepend (encode_utf8 e.0) (text_at e.1 xs)) (escape xs) (s, []) (sym here ∙ h) in
    let off = taken_off (encode_utf8 esc.0.0) (text_at esc.0.1 xs) s [] esc.2 in
    let rest = drop esc.0.1 xs in
    let more = chars_of n rest off.0 (omega (arith, less, length-drop esc.0.1 xs)) (sym (text_at-drop esc.0.1 xs) ∙ off.1) in
    subst (λ z. Chars (z ∷ xs)) (sym (eqb-true x 92 w)) (escape_chars xs esc.0 esc.1 more.0 more.2 more.1))
    (λ w. by_bool (nat_lt x 32)
    (λ k. absurd (none_some (sym (first x xs ∙ pick_third (x == 34) (x == 92) (nat_lt x 32) _ _ _ _ q w k) ∙ h)))
    (λ k.
    let here = first x xs ∙ pick_last (x == 34) (x == 92) (nat_lt x 32) _ _ _ _ q w k in
    let off = taken_off (x ∷ []) (text_at 0 xs) s [] (sym here ∙ h) in
    let more = chars_of n xs off.0 (omega (arith, less)) off.1 in
    (unescaped x ∷ more.0, ap (λ l. x ∷ l) more.1, (record { no_control = at_least x k; no_quote = no_test x 34 q; no_backslash = no_test x 92 w }, more.2)))))

-- what is read as a text is a string that stands for it
pub from_reading : (s b : List ℕ) → IsTextAt s b → IsText s b
unfolding Chars IsRead
from_reading s b h =
    let c = chars_of (suc (length h.0)) h.0 s (omega arith) h.2 in record {
      chars = c.0;
      spelled = h.1 ∙ ap (λ l. 34 ∷ l) c.1;
      well_formed = c.2;
      value = (parts s [] (chars_text c.0) [] (sym h.2 ∙ ap (text_at 0) c.1 ∙ chars_read c.0 c.2)).0;
    }
