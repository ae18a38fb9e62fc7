-- A map by texts, seen as a list by their bytes, and the labels of it.
use Rattle.std.proofs.Common.{◌≡◌, ℕ, List, [], ◌∷◌, map, Some, None, unwrap_or, option_map, Result, IfOk, Vec, Ordering, Less, Equal, Greater, refl, ap, ap₂, subst, ◌∙◌}
use Rattle.std.specs.Prelude.{String}
use Rattle.std.specs.Global.{Global}
use Rattle.std.specs.Ordering.{nat_cmp, match_ordering}
use Rattle.std.specs.Cmp.Lexicographic.{slice_cmp}
use Rattle.std.specs.BTreeMap.{insert_entry}
use Rattle.std.specs.List.{AllByRecursion}
use Rattle.std.specs.String.{string_cmp}
use Rattle.std.proofs.lemmas.Str.{utf8_lossy-IsUtf8}
use Rattle.exact_json.specs.Json.{Json, Members, members_list, object_members, HasTexts}
use Rattle.exact_json.specs.View.{pair_view, object_view}
use Rattle.exact_json.specs.declared.tree.Pair.{Pair}
use Rattle.exact_json.specs.declared.tree.Members.{Members as ObjectMembers}
use Rattle.venue_types.specs.declared.features.Label.{Label}
use Rattle.imdf_rows.specs.Fields.{text_field, with_text, with_texts, label, labels_field}
use Rattle.imdf_rows.specs.Laws.{PairHasTexts}
use Rattle.imdf_rows.specs.Lossy.{entry_bytes, with_lossy, all_lossy}
use Rattle.imdf_schema.specs.Values.{pairs_of}
use Rattle.imdf_rows.proofs.Texts.{text_has, pairs_have}

abbrev Entry : Type 0
Entry = String Global × String Global

chosen : (o : Ordering) (a b c : List Entry) → map entry_bytes (match_ordering o a b c) ≡ match_ordering o (map entry_bytes a) (map entry_bytes b) (map entry_bytes c)
chosen Less a b c = refl
chosen Equal a b c = refl
chosen Greater a b c = refl

pub seen_insert : (es : List Entry) (k v : String Global) → map entry_bytes (insert_entry string_cmp es k v) ≡ insert_entry (slice_cmp nat_cmp) (map entry_bytes es) (entry_bytes (k, v)).0 (entry_bytes (k, v)).1
seen_insert [] k v = refl
seen_insert (e ∷ es) k v =
    let o = string_cmp k e.0 in
    chosen o ((k, v) ∷ e ∷ es) ((e.0, v) ∷ es) (e ∷ insert_entry string_cmp es k v) ∙
    ap (λ (t : List (List ℕ × List ℕ)). match_ordering o (entry_bytes (k, v) ∷ entry_bytes e ∷ map entry_bytes es) (entry_bytes (e.0, v) ∷ map entry_bytes es) (entry_bytes e ∷ t)) (seen_insert es k v)

put_same : (texts : List (List ℕ × List ℕ)) (pair : List ℕ × Json) → PairHasTexts pair → with_lossy texts pair ≡ with_text texts pair
put_same texts pair h = ap₂ (λ k v. insert_entry (slice_cmp nat_cmp) texts k v) (utf8_lossy-IsUtf8 pair.0 h.0) (utf8_lossy-IsUtf8 (text_field pair.1) (text_has pair.1 h.1))

-- of texts that are UTF-8 nothing is lost
pub all_same : (texts : List (List ℕ × List ℕ)) (pairs : List (List ℕ × Json)) → AllByRecursion PairHasTexts pairs → all_lossy texts pairs ≡ with_texts texts pairs
all_same texts [] h = refl
all_same texts (pair ∷ pairs) h = ap (λ t. all_lossy t pairs) (put_same texts pair h.0) ∙ all_same (with_text texts pair) pairs h.1

members_of_value : (v : Json) (ms : Members) → Some ms ≡ object_members v → members_list ms ≡ pairs_of v
members_of_value v ms e = ap (λ o. unwrap_or (option_map members_list o) []) e

-- the labels of an object are those of the name that it is
pub labels_some : (v : Json) (ms : Members) → Some ms ≡ object_members v → HasTexts v → map label (all_lossy [] (members_list ms)) ≡ labels_field v
labels_some v ms e h =
    let same = members_of_value v ms e in
    ap (λ ps. map label (all_lossy [] ps)) same ∙ ap (map label) (all_same [] (pairs_of v) (pairs_have v h))

-- a name that is no object has no labels
pub labels_none : (v : Json) → None ≡ object_members v → [] ≡ labels_field v
labels_none v e = ap (λ o. map label (with_texts [] (unwrap_or (option_map members_list o) []))) e

-- the labels of an object's pairs are those of its members
pub object_labels : {E : Type 0} (r : Result (Vec Label Global) E) (m : ObjectMembers) (xs : List Pair) → map pair_view xs ≡ members_list (object_view m)
    → IfOk r (λ ls. ls.items ≡ map label (all_lossy [] (map pair_view xs)))
    → IfOk r (λ ls. ls.items ≡ map label (all_lossy [] (members_list (object_view m))))
object_labels r m xs same h = subst (λ ps. IfOk r (λ ls. ls.items ≡ map label (all_lossy [] ps))) same h
