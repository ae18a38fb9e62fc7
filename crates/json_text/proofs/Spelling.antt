-- A value's compact text spells it.
use Rattle.std.proofs.Common.{◌≡◌, ℕ, List, [], ◌∷◌, ◌++◌, true, false, refl, sym, ◌∙◌, ap, append_assoc}
use Rattle.std.proofs.lemmas.List.{append-nil}
use Rattle.exact_json.specs.Json.{Json, null, boolean, number, text, items, object, Items, no_items, item, Members, no_pairs, pair, AllNumbers, AllItemNumbers, AllMemberNumbers}
use Rattle.exact_json.specs.Number.{IsNumber}
use Rattle.exact_json.specs.Grammar.{Padded, MoreElements, Elements, IsPair, Spells, spellings, pair_spellings}
use Rattle.json_text.specs.Compact.{quoted, compact, first_items, more_items, first_pairs, more_pairs}
use Rattle.json_text.proofs.Strings.{is_text}

pub padded : (P : List ℕ → Type 0) (s : List ℕ) → P s → Padded P s
padded P s p = ([], s, [], sym (append-nil s), refl, p, refl)

is_pair : (P : List ℕ → Type 0) (k v : List ℕ) → P v → IsPair k P (quoted k ++ 58 ∷ v)
is_pair P k v p = (quoted k, [], [], v, sym (append_assoc (quoted k) (58 ∷ []) v) ∙ same, is_text k, refl, refl, p)
  where
    same : (quoted k ++ 58 ∷ []) ++ v ≡ ((quoted k ++ []) ++ 58 ∷ []) ++ v
    same = ap (λ (q : List ℕ). (q ++ 58 ∷ []) ++ v) (sym (append-nil (quoted k)))

mutual
  pub spells : (v : Json) → AllNumbers IsNumber v → Spells v (compact v)
  spells null h = refl
  spells (boolean true) h = refl
  spells (boolean false) h = refl
  spells (number t) h = (refl, h)
  spells (text s) h = is_text s
  spells (items js) h = (first_items js, refl, in_items js h)
  spells (object ms) h = (first_pairs ms, refl, in_pairs ms h)

  in_items : (js : Items) → AllItemNumbers IsNumber js → Elements (spellings js) (first_items js)
  in_items no_items h = refl
  in_items (item j js) h = (compact j, more_items js, refl, padded (Spells j) (compact j) (spells j h.0), behind_items js h.1)

  behind_items : (js : Items) → AllItemNumbers IsNumber js → MoreElements (spellings js) (more_items js)
  behind_items no_items h = refl
  behind_items (item j js) h = (compact j, more_items js, refl, padded (Spells j) (compact j) (spells j h.0), behind_items js h.1)

  in_pairs : (ms : Members) → AllMemberNumbers IsNumber ms → Elements (pair_spellings ms) (first_pairs ms)
  in_pairs no_pairs h = refl
  in_pairs (pair k j ms) h =
      let spelled = padded (IsPair k (Spells j)) (quoted k ++ 58 ∷ compact j) (is_pair (Spells j) k (compact j) (spells j h.0)) in
      (quoted k ++ 58 ∷ compact j, more_pairs ms, refl, spelled, behind_pairs ms h.1)

  behind_pairs : (ms : Members) → AllMemberNumbers IsNumber ms → MoreElements (pair_spellings ms) (more_pairs ms)
  behind_pairs no_pairs h = refl
  behind_pairs (pair k j ms) h =
      let spelled = padded (IsPair k (Spells j)) (quoted k ++ 58 ∷ compact j) (is_pair (Spells j) k (compact j) (spells j h.0)) in
      (quoted k ++ 58 ∷ compact j, more_pairs ms, refl, spelled, behind_pairs ms h.1)
