-- The labels of a name: a list of tags and texts in order, in which each tag has the last text that was put in.
use Rattle.std.proofs.Common.{◌≡◌, ◌∙◌, ℕ, Bool, true, false, cond, List, [], ◌∷◌, map, Option, Some, None, Ordering, Less, Equal, Greater, refl, sym, ap, subst}
use Rattle.std.specs.Prelude.{Contains, slice_get, option_map}
use Rattle.std.specs.List.{AllByRecursion}
use Rattle.std.specs.List.Sorted.{IsStrictlySortedBy}
use Rattle.std.specs.Cmp.Lexicographic.{slice_cmp}
use Rattle.std.specs.Map.{keys_of, lookup}
use Rattle.std.specs.BTreeMap.{insert_entry, is_at}
use Rattle.std.specs.Ordering.{nat_cmp, match_ordering, ordering_reverse, is_eq}
use Rattle.std.specs.Str.{bytes_eq}
use Rattle.std.proofs.lemmas.Cmp.{nat_list_cmp_total, eq_by_cmp_equiv}
use Rattle.std.proofs.lemmas.Map.Text.{is_eq-slice_cmp}
use Rattle.std.proofs.lemmas.Map.Keys.{IsDistinct-from_sorted}
use Rattle.std.proofs.lemmas.Map.Entries.{place_from_lookup, lookup_from_place}
use Rattle.std.proofs.lemmas.Slice.Eq.{bytes_eq-Decides}
use Rattle.std.proofs.lemmas.Option.{slice_get-map, slice_get_within, slice_get-get_or, get_or_from_slice_get}
use Rattle.exact_json.specs.Json.{Json, Members, no_pairs, pair, members_list, last_member, first_of_two, object_members}
use Rattle.exact_json.specs.Json as json
use Rattle.venue_types.specs.declared.features.Label.{Label}
use Rattle.imdf_schema.specs.Values.{pairs_of}
use Rattle.imdf_rows.specs.Fields.{text_field, with_text, with_texts, label, labels_field}
use Rattle.imdf_rows.specs.Laws.{IsLabelOf, AreLabelsOf, last_value}

abbrev Entries : Type 0
Entries = List (List ℕ × List ℕ)

abbrev by_bytes : List ℕ → List ℕ → Ordering
by_bytes = slice_cmp nat_cmp

-- the text of a tag
abbrev text_at : List ℕ → Entries → Option (List ℕ)
text_at tag es = lookup (is_at (by_bytes tag)) es

bytes_same : (a b : List ℕ) → bytes_eq a b ≡ true → a ≡ b
bytes_same a b e = (bytes_eq-Decides a b).0 e

same_bytes : (a : List ℕ) → bytes_eq a a ≡ true
same_bytes a = (bytes_eq-Decides a a).1 refl

equal_same : (a b : List ℕ) → by_bytes a b ≡ Equal → a ≡ b
equal_same a b e = bytes_same a b (sym (is_eq-slice_cmp a b) ∙ ap is_eq e)

less_back : (a b : List ℕ) → by_bytes a b ≡ Greater → by_bytes b a ≡ Less
less_back a b e = nat_list_cmp_total.antisymm b a ∙ ap ordering_reverse e

-- below what is below the rest
below_all : (a b : List ℕ) (ys : List (List ℕ)) → by_bytes a b ≡ Less → AllByRecursion (λ y. by_bytes b y ≡ Less) ys → AllByRecursion (λ y. by_bytes a y ≡ Less) ys
below_all a b [] e all = tt
below_all a b (y ∷ ys) e all = (nat_list_cmp_total.trans a b y e all.0, below_all a b ys e all.1)

below_put : (a k v : List ℕ) (es : Entries) → by_bytes a k ≡ Less → AllByRecursion (λ y. by_bytes a y ≡ Less) (keys_of es) → AllByRecursion (λ y. by_bytes a y ≡ Less) (keys_of (insert_entry by_bytes es k v))
below_put a k v [] e all = (e, tt)
below_put a k v (x ∷ es) e all = go (by_bytes k x.0) (below_put a k v es e all.1)
  where
    go : (o : Ordering) → AllByRecursion (λ y. by_bytes a y ≡ Less) (keys_of (insert_entry by_bytes es k v))
        → AllByRecursion (λ y. by_bytes a y ≡ Less) (keys_of (match_ordering o ((k, v) ∷ x ∷ es) ((x.0, v) ∷ es) (x ∷ insert_entry by_bytes es k v)))
    go Less rest = (e, all)
    go Equal rest = all
    go Greater rest = (all.0, rest)

put_ascends : (k v : List ℕ) (es : Entries) → IsStrictlySortedBy by_bytes (keys_of es) → IsStrictlySortedBy by_bytes (keys_of (insert_entry by_bytes es k v))
unfolding IsStrictlySortedBy
put_ascends k v [] sorted = (tt, tt)
put_ascends k v (x ∷ es) sorted = go (by_bytes k x.0) refl (put_ascends k v es sorted.1)
  where
    go : (o : Ordering) → by_bytes k x.0 ≡ o → IsStrictlySortedBy by_bytes (keys_of (insert_entry by_bytes es k v))
        → IsStrictlySortedBy by_bytes (keys_of (match_ordering o ((k, v) ∷ x ∷ es) ((x.0, v) ∷ es) (x ∷ insert_entry by_bytes es k v)))
    go Less e rest = ((e, below_all k x.0 (keys_of es) e sorted.0), sorted)
    go Equal e rest = sorted
    go Greater e rest = (below_put x.0 k v es (less_back k x.0 e) sorted.0, rest)

all_ascend : (es : Entries) (pairs : List (List ℕ × Json)) → IsStrictlySortedBy by_bytes (keys_of es) → IsStrictlySortedBy by_bytes (keys_of (with_texts es pairs))
all_ascend es [] sorted = sorted
all_ascend es (p ∷ pairs) sorted = all_ascend (with_text es p) pairs (put_ascends p.0 (text_field p.1) es sorted)

none_ascends : IsStrictlySortedBy by_bytes []
unfolding IsStrictlySortedBy
none_ascends = tt

-- the text of a tag, after one was put in
text_put : (q k v : List ℕ) (es : Entries) → text_at q (insert_entry by_bytes es k v) ≡ cond (is_eq (by_bytes q k)) (Some v) (text_at q es)
text_put q k v [] = refl
text_put q k v (x ∷ es) = go (by_bytes k x.0) refl (text_put q k v es)
  where
    Goal : Ordering → Type 0
    Goal o = text_at q (match_ordering o ((k, v) ∷ x ∷ es) ((x.0, v) ∷ es) (x ∷ insert_entry by_bytes es k v)) ≡ cond (is_eq (by_bytes q k)) (Some v) (text_at q (x ∷ es))

    both : (b : Bool) (w : List ℕ) (o : Option (List ℕ)) → cond b (Some v) o ≡ cond b (Some v) (cond b (Some w) o)
    both true w o = refl
    both false w o = refl

    apart : (a b : Bool) (w : List ℕ) (o : Option (List ℕ)) → (a ≡ true → b ≡ true → ⊥) → cond b (Some w) (cond a (Some v) o) ≡ cond a (Some v) (cond b (Some w) o)
    apart true true w o none = absurd (none refl refl)
    apart true false w o none = refl
    apart false true w o none = refl
    apart false false w o none = refl

    go : (o : Ordering) → by_bytes k x.0 ≡ o → text_at q (insert_entry by_bytes es k v) ≡ cond (is_eq (by_bytes q k)) (Some v) (text_at q es) → Goal o
    go Less e rest = refl
    go Equal e rest =
        let one : k ≡ x.0 = equal_same k x.0 e in
        subst (λ (z : List ℕ). cond (is_eq (by_bytes q x.0)) (Some v) (text_at q es) ≡ cond (is_eq (by_bytes q z)) (Some v) (cond (is_eq (by_bytes q x.0)) (Some x.1) (text_at q es))) (sym one) (both (is_eq (by_bytes q x.0)) x.1 (text_at q es))
    go Greater e rest =
        let far : is_eq (by_bytes q k) ≡ true → is_eq (by_bytes q x.0) ≡ true → ⊥ = λ a b.
        let here : q ≡ k = bytes_same q k (sym (is_eq-slice_cmp q k) ∙ a) in
        let there : q ≡ x.0 = bytes_same q x.0 (sym (is_eq-slice_cmp q x.0) ∙ b) in
        let equal : is_eq (by_bytes k x.0) ≡ true = ap (λ (z : List ℕ). is_eq (by_bytes z x.0)) (sym here) ∙ b in
        let greater : is_eq (by_bytes k x.0) ≡ false = ap is_eq e in cc in
        ap (λ o. cond (is_eq (by_bytes q x.0)) (Some x.1) o) rest ∙ apart (is_eq (by_bytes q k)) (is_eq (by_bytes q x.0)) x.1 (text_at q es) far

-- the last of two texts
abbrev later : Option (List ℕ) → Option (List ℕ) → Option (List ℕ)
later (Some t) o = Some t
later None o = o

texts_after : (q : List ℕ) (es : Entries) (ms : Members) → text_at q (with_texts es (members_list ms)) ≡ later (option_map text_field (last_member q ms)) (text_at q es)
texts_after q es no_pairs = refl
texts_after q es (pair k j ms) =
    texts_after q (with_text es (k, j)) ms
    ∙ ap (later (option_map text_field (last_member q ms))) (text_put q k (text_field j) es ∙ ap (λ b. cond b (Some (text_field j)) (text_at q es)) (is_eq-slice_cmp q k))
    ∙ go (last_member q ms) (bytes_eq q k) (bytes_eq k q) (turned q k)
  where
    turned : (a b : List ℕ) → bytes_eq a b ≡ bytes_eq b a
    turned a b = go_turned (bytes_eq a b) (bytes_eq b a) (λ e. ap (λ (z : List ℕ). bytes_eq z a) (sym (bytes_same a b e)) ∙ same_bytes a) (λ e. ap (λ (z : List ℕ). bytes_eq z b) (sym (bytes_same b a e)) ∙ same_bytes b)
      where
        go_turned : (x y : Bool) → (x ≡ true → y ≡ true) → (y ≡ true → x ≡ true) → x ≡ y
        go_turned true y into back = sym (into refl)
        go_turned false true into back = back refl
        go_turned false false into back = refl

    go : (o : Option Json) (b c : Bool) → b ≡ c → later (option_map text_field o) (cond b (Some (text_field j)) (text_at q es)) ≡ later (option_map text_field (first_of_two o (cond c (Some j) None))) (text_at q es)
    go (Some w) b c e = refl
    go None true true e = refl
    go None false false e = refl
    go None true false e = cc
    go None false true e = cc

later_none : (o : Option (List ℕ)) → later o None ≡ o
later_none (Some t) = refl
later_none None = refl

abbrev entries_of : Json → Entries
entries_of v = with_texts [] (pairs_of v)

-- the text of a tag is that of the last value
text_of_tag : (v : Json) (tag : List ℕ) → text_at tag (entries_of v) ≡ option_map text_field (last_value v tag)
text_of_tag (json.object ms) tag = texts_after tag [] ms ∙ later_none (option_map text_field (last_member tag ms))
text_of_tag json.null tag = refl
text_of_tag (json.boolean b) tag = refl
text_of_tag (json.number t) tag = refl
text_of_tag (json.text s) tag = refl
text_of_tag (json.items js) tag = refl

entries_ascend : (v : Json) → IsStrictlySortedBy by_bytes (keys_of (entries_of v))
entries_ascend v = all_ascend [] (pairs_of v) none_ascends

tags_are : (es : Entries) → map (λ x. x.tag) (map label es) ≡ keys_of es
tags_are [] = refl
tags_are (e ∷ es) = ap (λ (l : List (List ℕ)). e.0 ∷ l) (tags_are es)

mapped : {A B : Type 0} (f : A → B) (o : Option A) (y : B) → option_map f o ≡ Some y → (x : A) × (o ≡ Some x) × (f x ≡ y)
mapped f None y e = cc
mapped f (Some x) y e = (x, refl, cc)

has_value : (v : Json) (x : Label) → Contains (labels_field v) x → IsLabelOf v x
has_value v x at =
    let es = entries_of v in
    let here : option_map label (slice_get es at.0) ≡ Some x = sym (slice_get-map label es at.0) ∙ slice_get-get_or (map label es) at.0 x at.1 ∙ ap Some at.2 in
    let entry = mapped label (slice_get es at.0) x here in
    let text : text_at entry.0.0 es ≡ Some entry.0.1 = lookup_from_place (eq_by_cmp_equiv nat_list_cmp_total) es at.0 entry.0.0 entry.0.1 (IsDistinct-from_sorted by_bytes (keys_of es) (entries_ascend v)) entry.1 in
    let tag : entry.0.0 ≡ x.tag = ap (λ (l : Label). l.tag) entry.2 in
    let own : entry.0.1 ≡ x.text = ap (λ (l : Label). l.text) entry.2 in
    mapped text_field (last_value v x.tag) x.text (sym (text_of_tag v x.tag) ∙ ap (λ (t : List ℕ). text_at t es) (sym tag) ∙ text ∙ ap Some own)

has_label : (v : Json) (x : Label) → IsLabelOf v x → Contains (labels_field v) x
has_label v x last =
    let es = entries_of v in
    let text : text_at x.tag es ≡ Some x.text = text_of_tag v x.tag ∙ ap (option_map text_field) last.1 ∙ ap Some last.2 in
    let place = place_from_lookup (is_at (by_bytes x.tag)) es x.text text in
    let tag : x.tag ≡ place.1 = bytes_same x.tag place.1 (sym (is_eq-slice_cmp x.tag place.1) ∙ place.3) in
    let here : slice_get (map label es) place.0 ≡ Some x =
    slice_get-map label es place.0 ∙ ap (option_map label) place.2 ∙ ap (λ (t : List ℕ). Some (label (t, x.text))) (sym tag) in
    (place.0, slice_get_within (map label es) place.0 x here, get_or_from_slice_get (map label es) place.0 x x here)

-- the labels of a name ascend by their tags, each with the last text of its tag
pub labels_are : (v : Json) → AreLabelsOf v (labels_field v)
labels_are v = record {
  ascend = subst (IsStrictlySortedBy by_bytes) (sym (tags_are (entries_of v))) (entries_ascend v);
  exact = λ x. (has_value v x, has_label v x);
}
