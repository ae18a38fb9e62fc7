-- No list or object has more items than its text has bytes.
use Rattle.std.proofs.Common.{◌≡◌, ℕ, suc, ◌+◌, ◌≤◌, List, [], ◌∷◌, ◌++◌, Bool, true, false, cond, drop, length, nat_eq, ap, arith, length-append, length-drop}
use Rattle.std.specs.List.{starts_with}
use Rattle.exact_json.specs.Json.{Json, null, boolean, number, text, items, object, Items, no_items, item, Members, no_pairs, pair, items_list, members_list, IsNarrow, AreNarrow, HasNarrow}
use Rattle.exact_json.specs.Grammar.{Padded, MoreElements, Elements, IsPair, Spells, spellings, pair_spellings, IsJson, bare}

abbrev joined_length : (a b c : List ℕ) → length (a ++ b ++ c) ≡ length a + length b + length c
joined_length a b c = omega (arith, length-append (a ++ b) c, length-append a b)

-- what a padded spelling has room for
pad_length : (P : List ℕ → Type 0) (b : List ℕ) (h : Padded P b) → length h.1 ≤ length b
pad_length P b h = omega (arith, ap length h.3, joined_length h.0 h.1 h.2)

more_first : (P : List ℕ → Type 0) (Ps : List (List ℕ → Type 0)) (b : List ℕ) (h : MoreElements (P ∷ Ps) b) → suc (length h.0 + length h.1) ≡ length b
more_first P Ps b h = omega (arith, ap length h.2, length-append h.0 h.1)

first_first : (P : List ℕ → Type 0) (Ps : List (List ℕ → Type 0)) (b : List ℕ) (h : Elements (P ∷ Ps) b) → length h.0 + length h.1 ≡ length b
first_first P Ps b h = omega (arith, ap length h.2, length-append h.0 h.1)

pair_value_length : (k : List ℕ) (P : List ℕ → Type 0) (b : List ℕ) (h : IsPair k P b) → length h.3 ≤ length b
pair_value_length k P b h = omega (arith, ap length h.4, length-append (h.0 ++ h.1 ++ 58 ∷ h.2) h.3)

items_more : (js : Items) (b : List ℕ) → MoreElements (spellings js) b → length (items_list js) ≤ length b
items_more no_items b h = omega arith
items_more (item j js) b h = omega (arith, items_more js h.1 h.4, more_first (Spells j) (spellings js) b h)

items_count : (js : Items) (b : List ℕ) → Elements (spellings js) b → length (items_list js) ≤ suc (length b)
items_count no_items b h = omega arith
items_count (item j js) b h = omega (arith, items_more js h.1 h.4, first_first (Spells j) (spellings js) b h)

members_more : (ms : Members) (b : List ℕ) → MoreElements (pair_spellings ms) b → length (members_list ms) ≤ length b
members_more no_pairs b h = omega arith
members_more (pair k j ms) b h = omega (arith, members_more ms h.1 h.4, more_first (IsPair k (Spells j)) (pair_spellings ms) b h)

members_count : (ms : Members) (b : List ℕ) → Elements (pair_spellings ms) b → length (members_list ms) ≤ suc (length b)
members_count no_pairs b h = omega arith
members_count (pair k j ms) b h = omega (arith, members_more ms h.1 h.4, first_first (IsPair k (Spells j)) (pair_spellings ms) b h)

bracket_length : (s inside : List ℕ) (first close : ℕ) → s ≡ first ∷ inside ++ close ∷ [] → length s ≡ length inside + 2
bracket_length s inside first close h = omega (arith, ap length h, length-append inside (close ∷ []))

mutual
  narrow : (j : Json) (s : List ℕ) → Spells j s → (n : ℕ) → length s ≤ n → IsNarrow n j
  narrow null s h n le = tt
  narrow (boolean b) s h n le = tt
  narrow (number t) s h n le = tt
  narrow (text t) s h n le = tt
  narrow (items js) s h n le =
      let room = bracket_length s h.0 91 93 h.1 in
      (omega (arith, items_count js h.0 h.2, room, le), items_narrow js h.0 h.2 n (omega (arith, room, le)))
  narrow (object ms) s h n le =
      let room = bracket_length s h.0 123 125 h.1 in
      (omega (arith, members_count ms h.0 h.2, room, le), members_narrow ms h.0 h.2 n (omega (arith, room, le)))

  items_narrow : (js : Items) (b : List ℕ) → Elements (spellings js) b → (n : ℕ) → length b ≤ n → AreNarrow n js
  items_narrow no_items b h n le = tt
  items_narrow (item j js) b h n le =
      let room = first_first (Spells j) (spellings js) b h in
      (narrow j h.3.1 h.3.5 n (omega (arith, pad_length (Spells j) h.0 h.3, room, le)), items_narrow_more js h.1 h.4 n (omega (arith, room, le)))

  items_narrow_more : (js : Items) (b : List ℕ) → MoreElements (spellings js) b → (n : ℕ) → length b ≤ n → AreNarrow n js
  items_narrow_more no_items b h n le = tt
  items_narrow_more (item j js) b h n le =
      let room = more_first (Spells j) (spellings js) b h in
      (narrow j h.3.1 h.3.5 n (omega (arith, pad_length (Spells j) h.0 h.3, room, le)), items_narrow_more js h.1 h.4 n (omega (arith, room, le)))

  members_narrow : (ms : Members) (b : List ℕ) → Elements (pair_spellings ms) b → (n : ℕ) → length b ≤ n → HasNarrow n ms
  members_narrow no_pairs b h n le = tt
  members_narrow (pair k j ms) b h n le =
      let room = first_first (IsPair k (Spells j)) (pair_spellings ms) b h in
      (narrow j h.3.5.3 h.3.5.8 n (omega (arith, pair_value_length k (Spells j) h.3.1 h.3.5, pad_length (IsPair k (Spells j)) h.0 h.3, room, le)), members_narrow_more ms h.1 h.4 n (omega (arith, room, le)))

  members_narrow_more : (ms : Members) (b : List ℕ) → MoreElements (pair_spellings ms) b → (n : ℕ) → length b ≤ n → HasNarrow n ms
  members_narrow_more no_pairs b h n le = tt
  members_narrow_more (pair k j ms) b h n le =
      let room = more_first (IsPair k (Spells j)) (pair_spellings ms) b h in
      (narrow j h.3.5.3 h.3.5.8 n (omega (arith, pair_value_length k (Spells j) h.3.1 h.3.5, pad_length (IsPair k (Spells j)) h.0 h.3, room, le)), members_narrow_more ms h.1 h.4 n (omega (arith, room, le)))

bare_by : (b : List ℕ) (c : Bool) → length (cond c (drop 3 b) b) ≤ length b
bare_by b true = omega (arith, length-drop 3 b)
bare_by b false = omega arith

pub narrow_text : (b : List ℕ) (j : Json) → IsJson b j → IsNarrow (length b) j
narrow_text b j h = narrow j h.1.1 h.1.5 (length b) (omega (arith, pad_length (Spells j) (bare b) h.1, bare_by b (starts_with nat_eq b (239 ∷ 187 ∷ 191 ∷ []))))
