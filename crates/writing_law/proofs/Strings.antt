-- The text of a string in UTF-8 is UTF-8: a text may be cut at each backslash, and what an escape stands for is a character.
use Rattle.std.proofs.Common.{◌≡◌, ◌∙◌, ℕ, ◌+◌, ◌-◌, ◌*◌, ◌<◌, ◌≤◌, Bool, true, false, cond, ◌&&◌, ◌||◌, ◌==◌, nat_lt, nat_le, List, [], ◌∷◌, ◌++◌, length, get_or, Option, Some, None, IsSome, unwrap_or, refl, sym, ap, subst, arith, append_assoc, length-append}
use Rattle.std.proofs.Math.Seq.{take-append_seam, drop-append_seam}
use Rattle.std.proofs.lemmas.Bool.{and_parts, eqb-true, leb-true, ltb-true}
use Rattle.std.proofs.lemmas.List.{append-nil}
use Rattle.std.proofs.lemmas.Str.{IsUtf8-append, IsUtf8-encode, IsUtf8-take, IsUtf8-drop, IsCharBoundary-before_ascii, IsCharBoundary-after_ascii}
use Rattle.std.specs.List.{AllByRecursion, flat_map}
use Rattle.std.specs.Str.{IsUtf8}
use Rattle.std.specs.Char.{IsScalar, digit_value, encode_utf8}
use Rattle.exact_json.specs.Strings.{Char, unescaped, short, unit, char_bytes, short_escape, IsHex, AreHex, IsChar, unit_of, is_high, is_low, is_pair, character_of, alone, chars_text, IsText}

at_seam : (a : List ℕ) (x : ℕ) (b : List ℕ) → get_or (a ++ x ∷ b) (length a) 0 ≡ x
at_seam [] x b = refl
at_seam (y ∷ a) x b = at_seam a x b

inside_seam : (a : List ℕ) (x : ℕ) (b : List ℕ) → length a < length (a ++ x ∷ b)
inside_seam a x b = omega (arith, length-append a (x ∷ b))

-- a text may be cut before an ASCII byte
pub front_utf8 : (a : List ℕ) (x : ℕ) (b : List ℕ) → x < 128 → IsUtf8 (a ++ x ∷ b) → IsUtf8 a
front_utf8 a x b low u =
    let ascii : get_or (a ++ x ∷ b) (length a) 0 < 128 = subst (λ n. n < 128) (sym (at_seam a x b)) low in
    subst IsUtf8 (take-append_seam a (x ∷ b)) (IsUtf8-take (a ++ x ∷ b) (length a) u (IsCharBoundary-before_ascii (a ++ x ∷ b) (length a) (inside_seam a x b) ascii))

pub from_utf8 : (a : List ℕ) (x : ℕ) (b : List ℕ) → x < 128 → IsUtf8 (a ++ x ∷ b) → IsUtf8 (x ∷ b)
from_utf8 a x b low u =
    let ascii : get_or (a ++ x ∷ b) (length a) 0 < 128 = subst (λ n. n < 128) (sym (at_seam a x b)) low in
    subst IsUtf8 (drop-append_seam a (x ∷ b)) (IsUtf8-drop (a ++ x ∷ b) (length a) u (IsCharBoundary-before_ascii (a ++ x ∷ b) (length a) (inside_seam a x b) ascii))

pub tail_utf8 : (x : ℕ) (b : List ℕ) → x < 128 → IsUtf8 (x ∷ b) → IsUtf8 b
tail_utf8 x b low u = IsUtf8-drop (x ∷ b) 1 u (IsCharBoundary-after_ascii (x ∷ b) 0 u (omega arith) low)

pub back_utf8 : (a : List ℕ) (x : ℕ) (b : List ℕ) → x < 128 → IsUtf8 (a ++ x ∷ b) → IsUtf8 b
back_utf8 a x b low u = tail_utf8 x b low (from_utf8 a x b low u)

-- ---- escapes

hex_low : (a : ℕ) → IsHex a → a < 128
hex_low a h = grind (arith, h)

hex_cut : (a b c d : ℕ) (w : List ℕ) → AreHex a b c d → IsUtf8 (117 ∷ a ∷ b ∷ c ∷ d ∷ w) → IsUtf8 w
hex_cut a b c d w h u =
    tail_utf8 d w (hex_low d h.3) (tail_utf8 c (d ∷ w) (hex_low c h.2) (tail_utf8 b (c ∷ d ∷ w) (hex_low b h.1) (tail_utf8 a (b ∷ c ∷ d ∷ w) (hex_low a h.0) (tail_utf8 117 (a ∷ b ∷ c ∷ d ∷ w) (omega arith) u))))

small_or : (b : Bool) (n : ℕ) (o : Option ℕ) → (b ≡ true → n < 128) → unwrap_or o 0 < 128 → unwrap_or (cond b (Some n) o) 0 < 128
small_or true n o h rest = h refl
small_or false n o h rest = rest

quotes : (x : ℕ) → ((x == 34) || (x == 92) || (x == 47)) ≡ true → x < 128
quotes x e = grind (arith, e)

-- what a letter behind a backslash stands for is ASCII
short_small : (x : ℕ) → unwrap_or (short_escape x) 0 < 128
unfolding short_escape
short_small x =
    small_or ((x == 34) || (x == 92) || (x == 47)) x _ (quotes x)
    (small_or (x == 98) 8 _ (λ e. omega arith)
    (small_or (x == 102) 12 _ (λ e. omega arith)
    (small_or (x == 110) 10 _ (λ e. omega arith)
    (small_or (x == 114) 13 _ (λ e. omega arith)
    (small_or (x == 116) 9 None (λ e. omega arith) (omega arith))))))

-- a letter that may stand behind a backslash is ASCII
some_or : (b : Bool) (x n : ℕ) (o : Option ℕ) → (b ≡ true → x < 128) → (IsSome o → x < 128) → IsSome (cond b (Some n) o) → x < 128
some_or true x n o h rest is = h refl
some_or false x n o h rest is = rest is

letter : (x k : ℕ) → k < 128 → (x == k) ≡ true → x < 128
letter x k low e = let same = eqb-true x k e in omega arith

none_there : (x : ℕ) → IsSome {T = ℕ} None → x < 128
none_there x is = absurd (cc)

short_low : (x : ℕ) → IsSome (short_escape x) → x < 128
unfolding short_escape
short_low x =
    some_or ((x == 34) || (x == 92) || (x == 47)) x x _ (quotes x)
    (some_or (x == 98) x 8 _ (letter x 98 (omega arith))
    (some_or (x == 102) x 12 _ (letter x 102 (omega arith))
    (some_or (x == 110) x 10 _ (letter x 110 (omega arith))
    (some_or (x == 114) x 13 _ (letter x 114 (omega arith))
    (some_or (x == 116) x 9 None (letter x 116 (omega arith)) (none_there x))))))

ascii_scalar : (c : ℕ) → c < 128 → IsScalar c
ascii_scalar c h = grind (arith, h)

below : (a b c d : ℕ) → a < 16 → b < 16 → c < 16 → d < 16 → a * 4096 + b * 256 + c * 16 + d < 65536
below a b c d p q r s = omega (arith, p, q, r, s)

unit_small : (a b c d : ℕ) → AreHex a b c d → unit_of (unit a b c d) < 65536
unit_small a b c d h =
    below (digit_value a) (digit_value b) (digit_value c) (digit_value d) (ltb-true (digit_value a) 16 h.0) (ltb-true (digit_value b) 16 h.1) (ltb-true (digit_value c) 16 h.2) (ltb-true (digit_value d) 16 h.3)

plain_scalar : (u : ℕ) → u < 65536 → is_high u ≡ false → is_low u ≡ false → IsScalar u
plain_scalar u b h l = grind (arith, b, h, l)

half_scalar : (high low : Bool) (u : ℕ) → is_high u ≡ high → is_low u ≡ low → u < 65536 → IsScalar (cond (high || low) 0xfffd u)
half_scalar true low u p q small = refl
half_scalar false true u p q small = refl
half_scalar false false u p q small = plain_scalar u small p q

pair_scalar : (u l : ℕ) → is_high u ≡ true → is_low l ≡ true → IsScalar (character_of u l)
pair_scalar u l h g =
    let p = and_parts (nat_le 0xd800 u) (nat_lt u 0xdc00) h in
    let q = and_parts (nat_le 0xdc00 l) (nat_lt l 0xe000) g in
    let ulow = leb-true 0xd800 u p.0 in
    let uhigh = ltb-true u 0xdc00 p.1 in
    let llow = leb-true 0xdc00 l q.0 in
    let lhigh = ltb-true l 0xe000 q.1 in
    in_range (0x10000 + (u - 0xd800) * 1024 + (l - 0xdc00)) (omega (arith, ulow, llow)) (omega (arith, ulow, uhigh, llow, lhigh))
  where
    in_range : (n : ℕ) → 65536 ≤ n → n < 1114112 → IsScalar n
    in_range n a b = grind (arith, a, b)

-- ---- chars

plain_text : (c : ℕ) (cs : List Char) → chars_text (unescaped c ∷ cs) ≡ c ∷ chars_text cs
unfolding chars_text
plain_text c [] = refl
plain_text c (d ∷ cs) = refl

short_text : (x : ℕ) (cs : List Char) → chars_text (short x ∷ cs) ≡ alone (short x) ++ chars_text cs
unfolding chars_text
short_text x [] = sym (append-nil (alone (short x)))
short_text x (d ∷ cs) = refl

short_utf8 : (x : ℕ) → IsUtf8 (alone (short x))
short_utf8 x = IsUtf8-encode (unwrap_or (short_escape x) 0) (ascii_scalar (unwrap_or (short_escape x) 0) (short_small x))

unit_utf8 : (a b c d : ℕ) → AreHex a b c d → IsUtf8 (alone (unit a b c d))
unit_utf8 a b c d h =
    let u = unit_of (unit a b c d) in
    IsUtf8-encode (cond (is_high u || is_low u) 0xfffd u) (half_scalar (is_high u) (is_low u) u refl refl (unit_small a b c d h))

-- behind half of a pair: the other half, or a char of its own
paired : (b : Bool) (both one : List ℕ) → (b ≡ true → IsUtf8 both) → IsUtf8 one → IsUtf8 (cond b both one)
paired true both one h k = h refl
paired false both one h k = k

not_low : (b : Bool) → (b && false) ≡ true → ⊥
not_low true e = cc
not_low false e = cc

-- a is what was gone over since the last escape
run_utf8 : (cs : List Char) (a : List ℕ) → AllByRecursion IsChar cs → IsUtf8 (a ++ flat_map char_bytes cs) → IsUtf8 (a ++ chars_text cs)
unfolding chars_text
run_utf8 [] a ok u = u
run_utf8 (unescaped c ∷ cs) a ok u =
    let more : IsUtf8 ((a ++ c ∷ []) ++ flat_map char_bytes cs) = subst IsUtf8 (sym (append_assoc a (c ∷ []) (flat_map char_bytes cs))) u in
    let rest : IsUtf8 ((a ++ c ∷ []) ++ chars_text cs) = run_utf8 cs (a ++ c ∷ []) ok.1 more in
    subst IsUtf8 (append_assoc a (c ∷ []) (chars_text cs) ∙ ap (λ (l : List ℕ). a ++ l) (sym (plain_text c cs))) rest
run_utf8 (short x ∷ cs) a ok u =
    let front : IsUtf8 a = front_utf8 a 92 (x ∷ flat_map char_bytes cs) (omega arith) u in
    let back : IsUtf8 (flat_map char_bytes cs) = tail_utf8 x (flat_map char_bytes cs) (short_low x ok.0) (back_utf8 a 92 (x ∷ flat_map char_bytes cs) (omega arith) u) in
    let rest : IsUtf8 (chars_text cs) = run_utf8 cs [] ok.1 back in
    subst IsUtf8 (ap (λ (l : List ℕ). a ++ l) (sym (short_text x cs))) (IsUtf8-append a (alone (short x) ++ chars_text cs) front (IsUtf8-append (alone (short x)) (chars_text cs) (short_utf8 x) rest))
run_utf8 (unit p q r s ∷ []) a ok u =
    let front : IsUtf8 a = front_utf8 a 92 (117 ∷ p ∷ q ∷ r ∷ s ∷ []) (omega arith) u in
    IsUtf8-append a (alone (unit p q r s)) front (unit_utf8 p q r s ok.0)
run_utf8 (unit p q r s ∷ unescaped c ∷ cs) a ok u =
    let behind = flat_map char_bytes (unescaped c ∷ cs) in
    let front : IsUtf8 a = front_utf8 a 92 (117 ∷ p ∷ q ∷ r ∷ s ∷ behind) (omega arith) u in
    let back : IsUtf8 behind = hex_cut p q r s behind ok.0 (back_utf8 a 92 (117 ∷ p ∷ q ∷ r ∷ s ∷ behind) (omega arith) u) in
    let rest : IsUtf8 (chars_text (unescaped c ∷ cs)) = run_utf8 (unescaped c ∷ cs) [] ok.1 back in
    IsUtf8-append a _ front (paired (is_pair (unit p q r s) (unescaped c)) _ _ (λ e. absurd (not_low _ e)) (IsUtf8-append (alone (unit p q r s)) (chars_text (unescaped c ∷ cs)) (unit_utf8 p q r s ok.0) rest))
run_utf8 (unit p q r s ∷ short x ∷ cs) a ok u =
    let behind = flat_map char_bytes (short x ∷ cs) in
    let front : IsUtf8 a = front_utf8 a 92 (117 ∷ p ∷ q ∷ r ∷ s ∷ behind) (omega arith) u in
    let back : IsUtf8 behind = hex_cut p q r s behind ok.0 (back_utf8 a 92 (117 ∷ p ∷ q ∷ r ∷ s ∷ behind) (omega arith) u) in
    let rest : IsUtf8 (chars_text (short x ∷ cs)) = run_utf8 (short x ∷ cs) [] ok.1 back in
    IsUtf8-append a _ front (paired (is_pair (unit p q r s) (short x)) _ _ (λ e. absurd (not_low _ e)) (IsUtf8-append (alone (unit p q r s)) (chars_text (short x ∷ cs)) (unit_utf8 p q r s ok.0) rest))
run_utf8 (unit p q r s ∷ unit e f g h ∷ cs) a ok u =
    let behind = flat_map char_bytes (unit e f g h ∷ cs) in
    let front : IsUtf8 a = front_utf8 a 92 (117 ∷ p ∷ q ∷ r ∷ s ∷ behind) (omega arith) u in
    let back : IsUtf8 behind = hex_cut p q r s behind ok.0 (back_utf8 a 92 (117 ∷ p ∷ q ∷ r ∷ s ∷ behind) (omega arith) u) in
    let last : IsUtf8 (flat_map char_bytes cs) = hex_cut e f g h (flat_map char_bytes cs) ok.1.0 (tail_utf8 92 (117 ∷ e ∷ f ∷ g ∷ h ∷ flat_map char_bytes cs) (omega arith) back) in
    let rest : IsUtf8 (chars_text (unit e f g h ∷ cs)) = run_utf8 (unit e f g h ∷ cs) [] ok.1 back in
    let further : IsUtf8 (chars_text cs) = run_utf8 cs [] ok.1.1 last in
    let high = unit_of (unit p q r s) in
    let low = unit_of (unit e f g h) in
    IsUtf8-append a _ front
    (paired (is_pair (unit p q r s) (unit e f g h)) _ _
    (λ is. let both = and_parts (is_high high) (is_low low) is in IsUtf8-append (encode_utf8 (character_of high low)) (chars_text cs) (IsUtf8-encode (character_of high low) (pair_scalar high low both.0 both.1)) further)
    (IsUtf8-append (alone (unit p q r s)) (chars_text (unit e f g h ∷ cs)) (unit_utf8 p q r s ok.0) rest))

-- what stands between two ASCII bytes
pub inside_utf8 : (b inside : List ℕ) (first close : ℕ) → b ≡ first ∷ inside ++ close ∷ [] → first < 128 → close < 128 → IsUtf8 b → IsUtf8 inside
inside_utf8 b inside first close at f c u = front_utf8 inside close [] c (tail_utf8 first (inside ++ close ∷ []) f (subst IsUtf8 at u))

pub text_utf8 : (s b : List ℕ) → IsText s b → IsUtf8 b → IsUtf8 s
text_utf8 s b h u = subst IsUtf8 (sym h.value) (run_utf8 h.chars [] h.well_formed (inside_utf8 b (flat_map char_bytes h.chars) 34 34 h.spelled (omega arith) (omega arith) u))
