-- The labels of a name, written and read again: tags that rise strictly are put in one behind the other.
use Rattle.std.proofs.Common.{◌≡◌, ◌∙◌, ℕ, List, [], ◌∷◌, ◌++◌, map, Ordering, Less, Greater, refl, sym, ap, append_assoc}
use Rattle.std.specs.List.{AllByRecursion}
use Rattle.std.specs.List.Sorted.{IsStrictlySortedBy}
use Rattle.std.specs.Cmp.Lexicographic.{slice_cmp}
use Rattle.std.specs.Map.{keys_of}
use Rattle.std.specs.BTreeMap.{insert_entry}
use Rattle.std.specs.Ordering.{nat_cmp, match_ordering, ordering_reverse}
use Rattle.std.proofs.lemmas.Cmp.{nat_list_cmp_total}
use Rattle.std.proofs.lemmas.List.{append-nil}
use Rattle.exact_json.specs.Json.{members_list}
use Rattle.venue_types.specs.declared.features.Label.{Label}
use Rattle.imdf_rows.specs.Fields.{with_texts, label, labels_field}
use Rattle.imdf_rows.specs.Laws.{TagsAscend}
use Rattle.imdf_write.specs.Values.{label_pairs, name_value}

abbrev Entries : Type 0
Entries = List (List ℕ × List ℕ)

abbrev by_bytes : List ℕ → List ℕ → Ordering
by_bytes = slice_cmp nat_cmp

-- all tags so far are below this one
abbrev AreBelow : Entries → List ℕ → Type 0
AreBelow es tag = AllByRecursion (λ a. by_bytes a tag ≡ Less) (keys_of es)

abbrev entry : Label → List ℕ × List ℕ
entry x = (x.tag, x.text)

greater : (a b : List ℕ) → by_bytes a b ≡ Less → by_bytes b a ≡ Greater
greater a b e = nat_list_cmp_total.antisymm b a ∙ ap ordering_reverse e

put_last : (k v : List ℕ) (es : Entries) → AreBelow es k → insert_entry by_bytes es k v ≡ es ++ (k, v) ∷ []
put_last k v [] below = refl
put_last k v (x ∷ es) below =
    ap (λ o. match_ordering o ((k, v) ∷ x ∷ es) ((x.0, v) ∷ es) (x ∷ insert_entry by_bytes es k v)) (greater x.0 k below.0) ∙ ap (λ (rest : Entries). x ∷ rest) (put_last k v es below.1)

below_push : (es : Entries) (x : Label) (tag : List ℕ) → AreBelow es tag → by_bytes x.tag tag ≡ Less → AreBelow (es ++ entry x ∷ []) tag
below_push [] x tag below less = (less, tt)
below_push (e ∷ es) x tag below less = (below.0, below_push es x tag below.1 less)

below_more : (es : Entries) (x : Label) (ys : List Label) → AllByRecursion (λ (y : Label). AreBelow es y.tag) ys → AllByRecursion (λ tag. by_bytes x.tag tag ≡ Less) (map (λ (y : Label). y.tag) ys)
    → AllByRecursion (λ (y : Label). AreBelow (es ++ entry x ∷ []) y.tag) ys
below_more es x [] below above = tt
below_more es x (y ∷ ys) below above = (below_push es x y.tag below.0 above.0, below_more es x ys below.1 above.1)

put_all : (es : Entries) (labels : List Label) → AllByRecursion (λ (x : Label). AreBelow es x.tag) labels → TagsAscend labels → with_texts es (members_list (label_pairs labels)) ≡ es ++ map entry labels
unfolding IsStrictlySortedBy
put_all es [] below ascend = sym (append-nil es)
put_all es (x ∷ labels) below ascend =
    ap (λ (ts : Entries). with_texts ts (members_list (label_pairs labels))) (put_last x.tag x.text es below.0)
    ∙ put_all (es ++ entry x ∷ []) labels (below_more es x labels below.1 ascend.0) ascend.1
    ∙ append_assoc es (entry x ∷ []) (map entry labels)

none_below : (labels : List Label) → AllByRecursion (λ (x : Label). AreBelow [] x.tag) labels
none_below [] = tt
none_below (x ∷ labels) = (tt, none_below labels)

labels_again : (labels : List Label) → map label (map entry labels) ≡ labels
labels_again [] = refl
labels_again (x ∷ labels) = ap (λ (rest : List Label). x ∷ rest) (labels_again labels)

pub name_back : (labels : List Label) → TagsAscend labels → labels_field (name_value labels) ≡ labels
name_back [] ascend = refl
name_back (x ∷ labels) ascend = ap (map label) (put_all [] (x ∷ labels) (none_below (x ∷ labels)) ascend) ∙ labels_again (x ∷ labels)
