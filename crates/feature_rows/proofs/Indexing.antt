-- An index has the first place of each identifier, and what its places say of rows.
use Rattle.std.proofs.Common.{◌≡◌, ◌≢◌, ℕ, ◌<◌, ◌≤◌, List, Option, Some, None, length, get_or, map, ◌↔◌, refl, sym, ap, subst, ◌∙◌, arith}
use Rattle.std.specs.Prelude.{Contains, slice_get, IsSome, IsPermutation}
use Rattle.std.specs.List.Sorted.{IsSorted}
use Rattle.std.proofs.lemmas.List.{length-map}
use Rattle.std.proofs.lemmas.List.Sorted.{Contains-permutation, IsPermutation-sym}
use Rattle.std.proofs.lemmas.Option.{slice_get_within, get_or_from_slice_get, same_Some}
use Rattle.venue_types.proofs.Items.{at_member, member_at, at_map}
use Rattle.venue_types.specs.declared.feature_id.FeatureId.{FeatureId}
use Rattle.feature_rows.specs.declared.index.Entry.{Entry}
use Rattle.feature_rows.specs.declared.index.Index.{Index}
use Rattle.feature_rows.specs.Entries.{AreEntries, place_in}
use Rattle.feature_rows.specs.Indexes.{IsFirstAt, IsIndex, AreOnce, IsOnlyRow, place_of}
use Rattle.feature_rows.proofs.Entries.{entry, entry_cmp, in_order, place_found, place_some}

same_id : (a b : FeatureId) → a.0 ≡ b.0 → a ≡ b
same_id a b e = ap (λ (n : ℕ). let x : FeatureId = record { 0 = n } in x) e

-- the first place of each identifier, from entries in their order
first_of : (ids : List FeatureId) (n : ℕ) (es sorted : List Entry) → length ids ≤ n → AreEntries ids n es → IsPermutation es sorted → IsSorted entry_cmp sorted
    → (id : FeatureId) (k : ℕ) → place_in sorted id ≡ Some k → IsFirstAt ids id k
first_of ids n es sorted few gathered moved up id k e =
    let f = place_found sorted id k e in
    let was = gathered.only f.own (Contains-permutation sorted es f.own (IsPermutation-sym es sorted moved) (member_at sorted f.at f.own f.there)) in
    let own : f.own.id ≡ id = same_id f.own.id id f.same in
    record {
      here = subst (λ (j : ℕ). slice_get ids j ≡ Some id) f.placed (was.1 ∙ ap (λ (x : FeatureId). Some x) own);
      first = λ j there.
          let within : j < length ids = slice_get_within ids j id there in
          let other = at_member sorted (entry id j) (Contains-permutation es sorted (entry id j) moved (gathered.whole id j (omega arith) there)) in
          let behind : f.at ≤ other.0 = f.first other.0 (entry id j) other.1 refl in
          let inside : other.0 < length sorted = slice_get_within sorted other.0 (entry id j) other.1 in
          let ordered = in_order sorted up f.at other.0 f.own behind inside in
          let a : get_or sorted f.at f.own ≡ f.own = get_or_from_slice_get sorted f.at f.own f.own f.there in
          let b : get_or sorted other.0 f.own ≡ entry id j = get_or_from_slice_get sorted other.0 (entry id j) f.own other.1 in
          let under : f.own.place ≤ j = subst (λ (y : Entry). y.place ≤ j) a (subst (λ (y : Entry). (get_or sorted f.at f.own).place ≤ y.place) b (ordered.place (ap (λ (y : Entry). y.id.0) a ∙ f.same ∙ sym (ap (λ (y : Entry). y.id.0) b)))) in
          let placed : f.own.place ≡ k = f.placed in
          omega arith;
    }

pub of_entries : (ids : List FeatureId) (n : ℕ) (es : List Entry) (index : Index) → length ids ≤ n → AreEntries ids n es → IsPermutation es index.entries.items → IsSorted entry_cmp index.entries.items → IsIndex ids index
unfolding place_of
of_entries ids n es index few gathered moved up = record {
  only = first_of ids n es index.entries.items few gathered moved up;
  whole = λ id k there.
      let within : k < length ids = slice_get_within ids k id there in
      let at = at_member index.entries.items (entry id k) (Contains-permutation es index.entries.items (entry id k) moved (gathered.whole id k (omega arith) there)) in
      place_some index.entries.items at.0 (entry id k) id at.1 refl;
}

-- ---- what an index says

some_value : {X : Type 0} (o : Option X) → IsSome o → (x : X) × (o ≡ Some x)
some_value (Some x) h = (x, refl)
some_value None h = absurd (cc)

pub place_is : (ids : List FeatureId) (index : Index) (id : FeatureId) (k : ℕ) → AreOnce ids → IsIndex ids index → (place_of index id ≡ Some k) ↔ (slice_get ids k ≡ Some id)
place_is ids index id k own is = (
  (λ e. (is.only id k e).here),
  (λ there.
      let at = some_value (place_of index id) (is.whole id k there) in
      let same : at.0 ≡ k = own.once at.0 k id (is.only id at.0 at.1).here there in
      at.1 ∙ ap (λ (j : ℕ). Some j) same),
)

no_value : {X : Type 0} (o : Option X) → ¬ IsSome o → o ≡ None
no_value (Some x) h = absurd (h refl)
no_value None h = refl

pub none_is : (ids : List FeatureId) (index : Index) (id : FeatureId) → IsIndex ids index → (place_of index id ≡ None) ↔ (¬ Contains ids id)
none_is ids index id is = (
  (λ none has.
      let at = at_member ids id has in
      let some = some_value (place_of index id) (is.whole id at.0 at.1) in
      let c : None ≡ Some some.0 = sym none ∙ some.1 in
      cc),
  (λ lacks. no_value (place_of index id) (λ h.
      let some = some_value (place_of index id) h in
      lacks (member_at ids some.0 id (is.only id some.0 some.1).here))),
)

-- ---- rows

pub place_within : {R : Type 0} (id_of : R → FeatureId) (rows : List R) (index : Index) (id : FeatureId) (k : ℕ) → IsIndex (map id_of rows) index → place_of index id ≡ Some k → k < length rows
place_within id_of rows index id k is place =
    let within : k < length (map id_of rows) = slice_get_within (map id_of rows) k id (is.only id k place).here in
    let same : length (map id_of rows) ≡ length rows = length-map rows id_of in
    omega arith

pub only_row : {R : Type 0} (id_of : R → FeatureId) (rows : List R) (index : Index) (id : FeatureId) (k : ℕ) (row : R) → AreOnce (map id_of rows) → IsIndex (map id_of rows) index
    → place_of index id ≡ Some k → slice_get rows k ≡ Some row → IsOnlyRow id_of rows id row
only_row {R} id_of rows index id k row own is place at =
    let here : slice_get (map id_of rows) k ≡ Some id = (is.only id k place).here in
    record {
      has = member_at rows k row at;
      named = same_Some (id_of row) id (sym (at_map id_of rows k row at) ∙ here);
      only = λ other has named.
          let o = at_member rows other has in
          let there : slice_get (map id_of rows) o.0 ≡ Some id = at_map id_of rows o.0 other o.1 ∙ ap (λ (x : FeatureId). Some x) named in
          let same : k ≡ o.0 = own.once k o.0 id here there in
          same_Some other row (sym (subst (λ (i : ℕ). slice_get rows i ≡ Some other) (sym same) o.1) ∙ at);
    }

pub no_row : {R : Type 0} (id_of : R → FeatureId) (rows : List R) (index : Index) (id : FeatureId) (row : R) → IsIndex (map id_of rows) index → place_of index id ≡ None → Contains rows row → id_of row ≢ id
no_row id_of rows index id row is none has named =
    let o = at_member rows row has in
    let there : slice_get (map id_of rows) o.0 ≡ Some id = at_map id_of rows o.0 row o.1 ∙ ap (λ (x : FeatureId). Some x) named in
    (none_is (map id_of rows) index id is).0 none (member_at (map id_of rows) o.0 id there)
