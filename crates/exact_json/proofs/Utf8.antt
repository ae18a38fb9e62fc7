-- Each text in a value is UTF-8.
use Rattle.std.proofs.Common.{◌≡◌, ℕ, zero, suc, ◌<◌, true, ◌==◌, ◌∙◌, List, [], ◌∷◌, ◌++◌, take, drop, length, get_or, Option, Some, None, refl, sym, ap, subst, arith, append_assoc, length-append, length-drop, take-append-drop}
use Rattle.std.proofs.Math.Seq.{take-append_seam, drop-append_seam}
use Rattle.std.proofs.lemmas.Bool.{and_parts, eqb-true}
use Rattle.std.proofs.lemmas.List.{append-nil}
use Rattle.std.proofs.lemmas.Str.{IsUtf8-nil, IsUtf8-append, IsUtf8-encode, IsUtf8-take, IsUtf8-drop, IsCharBoundary-before_ascii, IsCharBoundary-after_ascii}
use Rattle.std.specs.List.{prefix_len}
use Rattle.std.specs.Str.{IsUtf8}
use Rattle.std.specs.Char.{IsScalar, encode_utf8}
use Rattle.exact_json.specs.Json.{Json, null, boolean, number, text, items, object, Items, no_items, item, Members, no_pairs, pair, HasTexts, ItemsHaveTexts, MembersHaveTexts}
use Rattle.exact_json.specs.Number.{head, is_space}
use Rattle.exact_json.specs.StringReading.{text_at, is_plain, escape}
use Rattle.exact_json.specs.Strings.{IsText, IsHex, AreHex}
use Rattle.exact_json.specs.Grammar.{IsSpace, Padded, MoreElements, Elements, IsPair, Spells, spellings, pair_spellings, IsJson, bare}
use Rattle.exact_json.proofs.Texts.{by_bool, head_cons, none_some, taken_off, text_at-run, text_at-quote, text_at-escape, text_at-no_escape, stopped}
use Rattle.exact_json.proofs.Escapes.{escape_forms}
use Rattle.exact_json.proofs.Chars.{to_reading}
use Rattle.exact_json.proofs.Fronts.{pair_parts, not_same}

at_seam : (a : List ℕ) (x : ℕ) (b : List ℕ) → get_or (a ++ x ∷ b) (length a) 0 ≡ x
at_seam [] x b = refl
at_seam (y ∷ a) x b = at_seam a x b

inside_seam : (a : List ℕ) (x : ℕ) (b : List ℕ) → length a < length (a ++ x ∷ b)
inside_seam a x b = omega (arith, length-append a (x ∷ b))

-- a text may be cut before an ASCII byte
front_utf8 : (a : List ℕ) (x : ℕ) (b : List ℕ) → x < 128 → IsUtf8 (a ++ x ∷ b) → IsUtf8 a
front_utf8 a x b low u =
    let ascii : get_or (a ++ x ∷ b) (length a) 0 < 128 = subst (λ n. n < 128) (sym (at_seam a x b)) low in
    subst IsUtf8 (take-append_seam a (x ∷ b)) (IsUtf8-take (a ++ x ∷ b) (length a) u (IsCharBoundary-before_ascii (a ++ x ∷ b) (length a) (inside_seam a x b) ascii))

from_utf8 : (a : List ℕ) (x : ℕ) (b : List ℕ) → x < 128 → IsUtf8 (a ++ x ∷ b) → IsUtf8 (x ∷ b)
from_utf8 a x b low u =
    let ascii : get_or (a ++ x ∷ b) (length a) 0 < 128 = subst (λ n. n < 128) (sym (at_seam a x b)) low in
    subst IsUtf8 (drop-append_seam a (x ∷ b)) (IsUtf8-drop (a ++ x ∷ b) (length a) u (IsCharBoundary-before_ascii (a ++ x ∷ b) (length a) (inside_seam a x b) ascii))

tail_utf8 : (x : ℕ) (b : List ℕ) → x < 128 → IsUtf8 (x ∷ b) → IsUtf8 b
tail_utf8 x b low u = IsUtf8-drop (x ∷ b) 1 u (IsCharBoundary-after_ascii (x ∷ b) 0 u (omega arith) low)

back_utf8 : (a : List ℕ) (x : ℕ) (b : List ℕ) → x < 128 → IsUtf8 (a ++ x ∷ b) → IsUtf8 b
back_utf8 a x b low u = tail_utf8 x b low (from_utf8 a x b low u)

-- ---- white space

space_low : (x : ℕ) → is_space x ≡ true → x < 128
space_low x h = grind (arith, h)

without_front : (sp b : List ℕ) → IsSpace sp → IsUtf8 (sp ++ b) → IsUtf8 b
without_front [] b h u = u
without_front (x ∷ sp) b h u = let p = and_parts _ _ h in without_front sp b p.1 (tail_utf8 x (sp ++ b) (space_low x p.0) u)

without_back : (b sp : List ℕ) → IsSpace sp → IsUtf8 (b ++ sp) → IsUtf8 b
without_back b [] h u = subst IsUtf8 (append-nil b) u
without_back b (x ∷ sp) h u = front_utf8 b x sp (space_low x (and_parts _ _ h).0) u

pad_utf8 : (P : List ℕ → Type 0) (b : List ℕ) (h : Padded P b) → IsUtf8 b → IsUtf8 h.1
pad_utf8 P b h u = without_front h.0 h.1 h.4 (without_back (h.0 ++ h.1) h.2 h.6 (subst IsUtf8 h.3 u))

-- ---- strings

hex_low : (a : ℕ) → IsHex a → a < 128
hex_low a h = grind (arith, h)

abbrev Cut : List ℕ → ℕ × ℕ → Type 0
Cut xs e = (IsUtf8 xs → IsUtf8 (drop e.1 xs)) × IsScalar e.0

hex_cut : (a b c d : ℕ) (w : List ℕ) → AreHex a b c d → IsUtf8 (117 ∷ a ∷ b ∷ c ∷ d ∷ w) → IsUtf8 w
hex_cut a b c d w h u =
    tail_utf8 d w (hex_low d h.3) (tail_utf8 c (d ∷ w) (hex_low c h.2) (tail_utf8 b (c ∷ d ∷ w) (hex_low b h.1) (tail_utf8 a (b ∷ c ∷ d ∷ w) (hex_low a h.0) (tail_utf8 117 (a ∷ b ∷ c ∷ d ∷ w) (omega arith) u))))

escape_cut : (xs : List ℕ) (e : ℕ × ℕ) → escape xs ≡ Some e → Cut xs e
escape_cut = escape_forms Cut
    (λ x w c is low s. ((λ u. tail_utf8 x w low u), s))
    (λ a b c d w n hex s. ((λ u. hex_cut a b c d w hex u), s))
    (λ a b c d e f g h w n hex more s. ((λ u. hex_cut e f g h w more (tail_utf8 92 (117 ∷ e ∷ f ∷ g ∷ h ∷ w) (omega arith) (hex_cut a b c d (92 ∷ 117 ∷ e ∷ f ∷ g ∷ h ∷ w) hex u))), s))

Utf8Below : ℕ → Type 0
Utf8Below n = (b s r : List ℕ) → length b < n → text_at 0 b ≡ Some (s, r) → IsUtf8 b → IsUtf8 s

pub by_option : {A B : Type 0} (o : Option A) → (o ≡ None → B) → ((x : A) → o ≡ Some x → B) → B
by_option None f g = f refl
by_option (Some x) f g = g x refl

run_utf8 : (n : ℕ) → Utf8Below n → (b s r : List ℕ) → length b < suc n → text_at 0 b ≡ Some (s, r) → IsUtf8 b → IsUtf8 s
unfolding Utf8Below
run_utf8 n ih b s r less h u =
    let k = prefix_len is_plain b in
    let front = take k b in
    let stop = drop k b in
    let whole : b ≡ front ++ stop = sym (take-append-drop k b) in
    let off = taken_off front (text_at 0 stop) s r (sym (text_at-run b) ∙ h) in
    by_bool (head stop == 34)
    (λ q.
    let at = eqb-true (head stop) 34 q in
    let cut = head_cons stop 34 at (λ e. omega (arith, e)) in
    let v : IsUtf8 (front ++ 34 ∷ drop 1 stop) = subst IsUtf8 (whole ∙ ap (λ l. front ++ l) cut) u in
    let none = (pair_parts [] off.0 (drop 1 stop) r (sym (text_at-quote stop at) ∙ off.1)).0 in
    subst IsUtf8 (sym (off.2 ∙ ap (λ l. front ++ l) (sym none) ∙ append-nil front)) (front_utf8 front 34 (drop 1 stop) (omega arith) v))
    (λ q. by_bool (head stop == 92)
    (λ w.
    let at = eqb-true (head stop) 92 w in
    let code = drop 1 stop in
    let cut = head_cons stop 92 at (λ e. omega (arith, e)) in
    let v : IsUtf8 (front ++ 92 ∷ code) = subst IsUtf8 (whole ∙ ap (λ l. front ++ l) cut) u in
    by_option (escape code)
    (λ none. absurd (none_some (sym (text_at-no_escape stop at none) ∙ off.1)))
    (λ e is.
    let parts = escape_cut code e is in
    let more = taken_off (encode_utf8 e.0) (text_at 0 (drop e.1 code)) off.0 r (sym (text_at-escape stop e at is) ∙ off.1) in
    let size : length (drop e.1 code) < n = omega (arith, less, ap length whole, length-append front stop, ap length cut, length-drop e.1 code) in
    let rest = ih (drop e.1 code) more.0 r size more.1 (parts.0 (back_utf8 front 92 code (omega arith) v)) in
    subst IsUtf8 (sym (off.2 ∙ ap (λ l. front ++ l) more.2)) (IsUtf8-append front _ (front_utf8 front 92 code (omega arith) v) (IsUtf8-append (encode_utf8 e.0) more.0 (IsUtf8-encode e.0 parts.1) rest))))
    (λ w. absurd (none_some (sym (stopped b k stop front refl refl (not_same (head stop) 34 q) (not_same (head stop) 92 w)) ∙ sym (text_at-run b) ∙ h))))

utf8_below : (n : ℕ) → Utf8Below n
unfolding Utf8Below
utf8_below zero b s r less h u = absurd (omega (arith, less))
utf8_below (suc n) b s r less h u = run_utf8 n (utf8_below n) b s r less h u

text_utf8 : (s b : List ℕ) → IsText s b → IsUtf8 b → IsUtf8 s
unfolding Utf8Below
text_utf8 s b h u =
    let t = to_reading s b h in
    utf8_below (suc (length t.0)) t.0 s [] (omega arith) t.2 (tail_utf8 34 t.0 (omega arith) (subst IsUtf8 t.1 u))

-- ---- lists and objects

inside_utf8 : (b inside : List ℕ) (first close : ℕ) → b ≡ first ∷ inside ++ close ∷ [] → first < 128 → close < 128 → IsUtf8 b → IsUtf8 inside
inside_utf8 b inside first close at f c u = front_utf8 inside close [] c (tail_utf8 first (inside ++ close ∷ []) f (subst IsUtf8 at u))

-- an element and those behind it
split_utf8 : (Ps : List (List ℕ → Type 0)) (first rest : List ℕ) → MoreElements Ps rest → IsUtf8 (first ++ rest) → IsUtf8 first × IsUtf8 rest
split_utf8 [] first rest h u = (subst IsUtf8 (ap (λ l. first ++ l) h ∙ append-nil first) u, subst IsUtf8 (sym h) IsUtf8-nil)
split_utf8 (P ∷ Ps) first rest h u =
    let v : IsUtf8 (first ++ 44 ∷ (h.0 ++ h.1)) = subst IsUtf8 (ap (λ l. first ++ l) h.2) u in
    (front_utf8 first 44 (h.0 ++ h.1) (omega arith) v, subst IsUtf8 (sym h.2) (from_utf8 first 44 (h.0 ++ h.1) (omega arith) v))

more_utf8 : (P : List ℕ → Type 0) (Ps : List (List ℕ → Type 0)) (b : List ℕ) (h : MoreElements (P ∷ Ps) b) → IsUtf8 b → IsUtf8 h.0 × IsUtf8 h.1
more_utf8 P Ps b h u = split_utf8 Ps h.0 h.1 h.4 (tail_utf8 44 (h.0 ++ h.1) (omega arith) (subst IsUtf8 h.2 u))

first_utf8 : (P : List ℕ → Type 0) (Ps : List (List ℕ → Type 0)) (b : List ℕ) (h : Elements (P ∷ Ps) b) → IsUtf8 b → IsUtf8 h.0 × IsUtf8 h.1
first_utf8 P Ps b h u = split_utf8 Ps h.0 h.1 h.4 (subst IsUtf8 h.2 u)

pair_utf8 : (k : List ℕ) (P : List ℕ → Type 0) (b : List ℕ) (h : IsPair k P b) → IsUtf8 b → IsUtf8 h.0 × IsUtf8 h.3
pair_utf8 k P b h u =
    let v : IsUtf8 ((h.0 ++ h.1) ++ 58 ∷ (h.2 ++ h.3)) = subst IsUtf8 (h.4 ∙ append_assoc (h.0 ++ h.1) (58 ∷ h.2) h.3) u in
    (without_back h.0 h.1 h.6 (front_utf8 (h.0 ++ h.1) 58 (h.2 ++ h.3) (omega arith) v), without_front h.2 h.3 h.7 (back_utf8 (h.0 ++ h.1) 58 (h.2 ++ h.3) (omega arith) v))

mutual
  texts : (j : Json) (b : List ℕ) → Spells j b → IsUtf8 b → HasTexts j
  texts null b h u = tt
  texts (boolean t) b h u = tt
  texts (number t) b h u = tt
  texts (text s) b h u = text_utf8 s b h u
  texts (items js) b h u = items_texts js h.0 h.2 (inside_utf8 b h.0 91 93 h.1 (omega arith) (omega arith) u)
  texts (object ms) b h u = members_texts ms h.0 h.2 (inside_utf8 b h.0 123 125 h.1 (omega arith) (omega arith) u)

  items_texts : (js : Items) (b : List ℕ) → Elements (spellings js) b → IsUtf8 b → ItemsHaveTexts js
  items_texts no_items b h u = tt
  items_texts (item j js) b h u =
      let v = first_utf8 (Spells j) (spellings js) b h u in
      (texts j h.3.1 h.3.5 (pad_utf8 (Spells j) h.0 h.3 v.0), items_texts_more js h.1 h.4 v.1)

  items_texts_more : (js : Items) (b : List ℕ) → MoreElements (spellings js) b → IsUtf8 b → ItemsHaveTexts js
  items_texts_more no_items b h u = tt
  items_texts_more (item j js) b h u =
      let v = more_utf8 (Spells j) (spellings js) b h u in
      (texts j h.3.1 h.3.5 (pad_utf8 (Spells j) h.0 h.3 v.0), items_texts_more js h.1 h.4 v.1)

  members_texts : (ms : Members) (b : List ℕ) → Elements (pair_spellings ms) b → IsUtf8 b → MembersHaveTexts ms
  members_texts no_pairs b h u = tt
  members_texts (pair k j ms) b h u =
      let v = first_utf8 (IsPair k (Spells j)) (pair_spellings ms) b h u in
      let p = h.3.5 in
      let w = pair_utf8 k (Spells j) h.3.1 p (pad_utf8 (IsPair k (Spells j)) h.0 h.3 v.0) in
      (text_utf8 k p.0 p.5 w.0, texts j p.3 p.8 w.1, members_texts_more ms h.1 h.4 v.1)

  members_texts_more : (ms : Members) (b : List ℕ) → MoreElements (pair_spellings ms) b → IsUtf8 b → MembersHaveTexts ms
  members_texts_more no_pairs b h u = tt
  members_texts_more (pair k j ms) b h u =
      let v = more_utf8 (IsPair k (Spells j)) (pair_spellings ms) b h u in
      let p = h.3.5 in
      let w = pair_utf8 k (Spells j) h.3.1 p (pad_utf8 (IsPair k (Spells j)) h.0 h.3 v.0) in
      (text_utf8 k p.0 p.5 w.0, texts j p.3 p.8 w.1, members_texts_more ms h.1 h.4 v.1)

pub texts_of : (b : List ℕ) (j : Json) → IsJson b j → HasTexts j
texts_of b j h = texts j h.1.1 h.1.5 (pad_utf8 (Spells j) (bare b) h.1 h.0)
