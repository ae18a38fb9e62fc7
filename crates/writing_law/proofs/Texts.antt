-- Each text in the value of a text is UTF-8.
use Rattle.std.proofs.Common.{◌≡◌, ◌∙◌, ℕ, ◌<◌, true, List, [], ◌∷◌, ◌++◌, sym, ap, subst, arith, append_assoc}
use Rattle.std.proofs.lemmas.Bool.{and_parts}
use Rattle.std.proofs.lemmas.List.{append-nil}
use Rattle.std.proofs.lemmas.Str.{IsUtf8-nil}
use Rattle.std.specs.Str.{IsUtf8}
use Rattle.exact_json.specs.Json.{Json, null, boolean, number, text, items, object, Items, no_items, item, Members, no_pairs, pair, HasTexts, ItemsHaveTexts, MembersHaveTexts}
use Rattle.exact_json.specs.Number.{is_space}
use Rattle.exact_json.specs.Grammar.{IsSpace, Padded, MoreElements, Elements, IsPair, Spells, spellings, pair_spellings, IsJson, bare}
use Rattle.writing_law.proofs.Strings.{front_utf8, from_utf8, tail_utf8, back_utf8, inside_utf8, text_utf8}

-- ---- white space

space_low : (x : ℕ) → is_space x ≡ true → x < 128
space_low x h = grind (arith, h)

without_front : (sp b : List ℕ) → IsSpace sp → IsUtf8 (sp ++ b) → IsUtf8 b
without_front [] b h u = u
without_front (x ∷ sp) b h u = let p = and_parts _ _ h in without_front sp b p.1 (tail_utf8 x (sp ++ b) (space_low x p.0) u)

without_back : (b sp : List ℕ) → IsSpace sp → IsUtf8 (b ++ sp) → IsUtf8 b
without_back b [] h u = subst IsUtf8 (append-nil b) u
without_back b (x ∷ sp) h u = front_utf8 b x sp (space_low x (and_parts _ _ h).0) u

pad_utf8 : (P : List ℕ → Type 0) (b : List ℕ) (h : Padded P b) → IsUtf8 b → IsUtf8 h.1
pad_utf8 P b h u = without_front h.0 h.1 h.4 (without_back (h.0 ++ h.1) h.2 h.6 (subst IsUtf8 h.3 u))

-- ---- lists and objects

-- an element and those behind it
split_utf8 : (Ps : List (List ℕ → Type 0)) (first rest : List ℕ) → MoreElements Ps rest → IsUtf8 (first ++ rest) → IsUtf8 first × IsUtf8 rest
split_utf8 [] first rest h u = (subst IsUtf8 (ap (λ l. first ++ l) h ∙ append-nil first) u, subst IsUtf8 (sym h) IsUtf8-nil)
split_utf8 (P ∷ Ps) first rest h u =
    let v : IsUtf8 (first ++ 44 ∷ (h.0 ++ h.1)) = subst IsUtf8 (ap (λ l. first ++ l) h.2) u in
    (front_utf8 first 44 (h.0 ++ h.1) (omega arith) v, subst IsUtf8 (sym h.2) (from_utf8 first 44 (h.0 ++ h.1) (omega arith) v))

more_utf8 : (P : List ℕ → Type 0) (Ps : List (List ℕ → Type 0)) (b : List ℕ) (h : MoreElements (P ∷ Ps) b) → IsUtf8 b → IsUtf8 h.0 × IsUtf8 h.1
more_utf8 P Ps b h u = split_utf8 Ps h.0 h.1 h.4 (tail_utf8 44 (h.0 ++ h.1) (omega arith) (subst IsUtf8 h.2 u))

first_utf8 : (P : List ℕ → Type 0) (Ps : List (List ℕ → Type 0)) (b : List ℕ) (h : Elements (P ∷ Ps) b) → IsUtf8 b → IsUtf8 h.0 × IsUtf8 h.1
first_utf8 P Ps b h u = split_utf8 Ps h.0 h.1 h.4 (subst IsUtf8 h.2 u)

pair_utf8 : (k : List ℕ) (P : List ℕ → Type 0) (b : List ℕ) (h : IsPair k P b) → IsUtf8 b → IsUtf8 h.0 × IsUtf8 h.3
pair_utf8 k P b h u =
    let v : IsUtf8 ((h.0 ++ h.1) ++ 58 ∷ (h.2 ++ h.3)) = subst IsUtf8 (h.4 ∙ append_assoc (h.0 ++ h.1) (58 ∷ h.2) h.3) u in
    (without_back h.0 h.1 h.6 (front_utf8 (h.0 ++ h.1) 58 (h.2 ++ h.3) (omega arith) v), without_front h.2 h.3 h.7 (back_utf8 (h.0 ++ h.1) 58 (h.2 ++ h.3) (omega arith) v))

mutual
  texts : (j : Json) (b : List ℕ) → Spells j b → IsUtf8 b → HasTexts j
  texts null b h u = tt
  texts (boolean t) b h u = tt
  texts (number t) b h u = tt
  texts (text s) b h u = text_utf8 s b h u
  texts (items js) b h u = items_texts js h.0 h.2 (inside_utf8 b h.0 91 93 h.1 (omega arith) (omega arith) u)
  texts (object ms) b h u = members_texts ms h.0 h.2 (inside_utf8 b h.0 123 125 h.1 (omega arith) (omega arith) u)

  items_texts : (js : Items) (b : List ℕ) → Elements (spellings js) b → IsUtf8 b → ItemsHaveTexts js
  items_texts no_items b h u = tt
  items_texts (item j js) b h u =
      let v = first_utf8 (Spells j) (spellings js) b h u in
      (texts j h.3.1 h.3.5 (pad_utf8 (Spells j) h.0 h.3 v.0), items_texts_more js h.1 h.4 v.1)

  items_texts_more : (js : Items) (b : List ℕ) → MoreElements (spellings js) b → IsUtf8 b → ItemsHaveTexts js
  items_texts_more no_items b h u = tt
  items_texts_more (item j js) b h u =
      let v = more_utf8 (Spells j) (spellings js) b h u in
      (texts j h.3.1 h.3.5 (pad_utf8 (Spells j) h.0 h.3 v.0), items_texts_more js h.1 h.4 v.1)

  members_texts : (ms : Members) (b : List ℕ) → Elements (pair_spellings ms) b → IsUtf8 b → MembersHaveTexts ms
  members_texts no_pairs b h u = tt
  members_texts (pair k j ms) b h u =
      let v = first_utf8 (IsPair k (Spells j)) (pair_spellings ms) b h u in
      let p = h.3.5 in
      let w = pair_utf8 k (Spells j) h.3.1 p (pad_utf8 (IsPair k (Spells j)) h.0 h.3 v.0) in
      (text_utf8 k p.0 p.5 w.0, texts j p.3 p.8 w.1, members_texts_more ms h.1 h.4 v.1)

  members_texts_more : (ms : Members) (b : List ℕ) → MoreElements (pair_spellings ms) b → IsUtf8 b → MembersHaveTexts ms
  members_texts_more no_pairs b h u = tt
  members_texts_more (pair k j ms) b h u =
      let v = more_utf8 (IsPair k (Spells j)) (pair_spellings ms) b h u in
      let p = h.3.5 in
      let w = pair_utf8 k (Spells j) h.3.1 p (pad_utf8 (IsPair k (Spells j)) h.0 h.3 v.0) in
      (text_utf8 k p.0 p.5 w.0, texts j p.3 p.8 w.1, members_texts_more ms h.1 h.4 v.1)

pub texts_of : (b : List ℕ) (j : Json) → IsJson b j → HasTexts j
texts_of b j h = texts j h.1.1 h.1.5 (pad_utf8 (Spells j) (bare b) h.1 h.0)
