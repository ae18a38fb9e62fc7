-- Values and labels that are added one behind the other.
use Rattle.std.proofs.Common.{◌≡◌, ℕ, ◌+◌, ◌<◌, ◌≤◌, List, [], ◌∷◌, ◌++◌, map, drop, length, get_or, sym, ap, ◌∙◌, arith}
use Rattle.std.proofs.lemmas.List.{drop_more, drop_all}
use Rattle.exact_json.specs.Json.{Json}
use Rattle.json_text.specs.Compact.{quoted, compact, first_items, more_items, more_pairs}
use Rattle.json_text.specs.Drafts.{Drafted, onto}
use Rattle.json_text.proofs.Drafts.{onto_twice, onto_nothing}
use Rattle.venue_types.specs.declared.features.Label.{Label}
use Rattle.imdf_write.specs.Values.{items_of, label_pairs}
use Rattle.imdf_write.proofs.Pieces.{three}

module _ {X : Type 0} (f : X → Json) where
  -- what is told of the values that are left stays behind a comma and the next of them
  pub next_item : (xs : List X) (i : ℕ) (x : X) (out pushed grown whole : Drafted) → i < length xs → x ≡ get_or xs i x
      → onto out (more_items (items_of (map f (drop i xs)))) ≡ whole → pushed ≡ onto out (44 ∷ []) → grown ≡ onto pushed (compact (f x))
      → onto grown (more_items (items_of (map f (drop (i + 1) xs)))) ≡ whole
  next_item xs i x out pushed grown whole less at so_far comma value =
      let rest = more_items (items_of (map f (drop (i + 1) xs))) in
      let here : drop i xs ≡ x ∷ drop (i + 1) xs = drop_more xs i x less ∙ ap (λ y. y ∷ drop (i + 1) xs) (sym at) in
      ap (λ d. onto d rest) (value ∙ ap (λ d. onto d (compact (f x))) comma) ∙ three out (44 ∷ []) (compact (f x)) rest
      ∙ ap (λ ys. onto out (more_items (items_of (map f ys)))) (sym here) ∙ so_far

  -- where none is left, all are added
  pub no_item_left : (xs : List X) (i : ℕ) (out whole : Drafted) → length xs ≤ i → onto out (more_items (items_of (map f (drop i xs)))) ≡ whole → out ≡ whole
  no_item_left xs i out whole beyond so_far =
      sym (onto_nothing out) ∙ ap (λ ys. onto out (more_items (items_of (map f ys)))) (sym (drop_all i xs beyond)) ∙ so_far

  pub first_and_more : (xs others : List X) (x : X) (out grown whole : Drafted) → xs ≡ x ∷ others → grown ≡ onto out (compact (f x))
      → whole ≡ onto grown (more_items (items_of (map f others))) → whole ≡ onto out (first_items (items_of (map f xs)))
  first_and_more xs others x out grown whole is first more =
      let rest = more_items (items_of (map f others)) in
      more ∙ ap (λ d. onto d rest) first ∙ onto_twice out (compact (f x)) rest ∙ ap (λ ys. onto out (first_items (items_of (map f ys)))) (sym is)

  pub no_item : (xs : List X) (out : Drafted) → length xs ≡ 0 → out ≡ onto out (first_items (items_of (map f xs)))
  no_item [] out none = sym (onto_nothing out)
  no_item (x ∷ xs) out none = absurd (omega (arith, none))

-- the same of labels
pub next_label : (xs : List Label) (i : ℕ) (x : Label) (out pushed grown whole : Drafted) → i < length xs → x ≡ get_or xs i x
    → onto out (more_pairs (label_pairs (drop i xs))) ≡ whole → pushed ≡ onto out (44 ∷ []) → grown ≡ onto pushed (quoted x.tag ++ 58 ∷ quoted x.text)
    → onto grown (more_pairs (label_pairs (drop (i + 1) xs))) ≡ whole
next_label xs i x out pushed grown whole less at so_far comma value =
    let rest = more_pairs (label_pairs (drop (i + 1) xs)) in
    let label = quoted x.tag ++ 58 ∷ quoted x.text in
    let here : drop i xs ≡ x ∷ drop (i + 1) xs = drop_more xs i x less ∙ ap (λ y. y ∷ drop (i + 1) xs) (sym at) in
    ap (λ d. onto d rest) (value ∙ ap (λ d. onto d label) comma) ∙ three out (44 ∷ []) label rest
    ∙ ap (λ ys. onto out (more_pairs (label_pairs ys))) (sym here) ∙ so_far

pub no_label_left : (xs : List Label) (i : ℕ) (out whole : Drafted) → length xs ≤ i → onto out (more_pairs (label_pairs (drop i xs))) ≡ whole → out ≡ whole
no_label_left xs i out whole beyond so_far =
    sym (onto_nothing out) ∙ ap (λ ys. onto out (more_pairs (label_pairs ys))) (sym (drop_all i xs beyond)) ∙ so_far
