-- The place that an index has for an identifier is the first at which it stands.
use Rattle.std.proofs.Common.{◌≡◌, ℕ, zero, suc, ◌+◌, ◌≤◌, Bool, true, false, cond, List, [], ◌∷◌, map, length, Option, Some, None, refl, sym, ap, ◌∙◌, ◌⊎◌, inl, inr, arith, subst, ◌<◌}
use Rattle.std.specs.Prelude.{slice_get, IsSome}
use Rattle.std.specs.List.{position_from, find}
use Rattle.std.proofs.lemmas.Option.{slice_get_within, same_Some}
use Rattle.venue_types.proofs.Items.{at_map}
use Rattle.venue_types.specs.declared.feature_id.FeatureId.{FeatureId}
use Rattle.venue_types.specs.declared.features.OccupantRow.{OccupantRow}
use Rattle.feature_rows.specs.declared.index.Index.{Index}
use Rattle.feature_rows.specs.Indexes.{place_of, IsIndex}
use Rattle.venue_nodes.specs.Identity.{is_same}
use Rattle.venue_nodes.specs.Numbering.{number_among, HasFew}
use Rattle.venue_nodes.proofs.Identifiers.{same_id, id_same}

-- either outcome of a test
pub tested : (b : Bool) → (b ≡ true) ⊎ (b ≡ false)
tested true = inl refl
tested false = inr refl

pub found_at : (ids : List FeatureId) (id : FeatureId) (n k : ℕ) → slice_get ids k ≡ Some id → ((j : ℕ) → slice_get ids j ≡ Some id → k ≤ j) → position_from (λ other. is_same other id) n ids ≡ Some (n + k)
found_at [] id n k at first = cc
found_at (x ∷ xs) id n zero at first =
    let here : is_same x id ≡ true = id_same x id (same_Some x id at) in
    let none : n ≡ n + 0 = omega arith in
    rw here (ap (λ i. Some i) none)
found_at (x ∷ xs) id n (suc k) at first = elim (tested (is_same x id)) [
  | inl same ↦ let early : suc k ≤ 0 = first 0 (ap (λ y. Some y) (same_id x id same)) in absurd (omega arith)
  | inr other ↦
      let rest = found_at xs id (n + 1) k at (λ j there. let later : suc k ≤ suc j = first (suc j) there in omega arith) in
      let moved : n + 1 + k ≡ n + suc k = omega arith in
      rw other (rest ∙ ap (λ i. Some i) moved)
]

nowhere : (ids : List FeatureId) (id : FeatureId) (n : ℕ) → ((k : ℕ) → slice_get ids k ≡ Some id → ⊥) → position_from (λ other. is_same other id) n ids ≡ None
nowhere [] id n none = refl
nowhere (x ∷ xs) id n none = elim (tested (is_same x id)) [
  | inl same ↦ absurd (none 0 (ap (λ y. Some y) (same_id x id same)))
  | inr other ↦ rw other (nowhere xs id (n + 1) (λ k there. none (suc k) there))
]

some_none : {X : Type 0} (o : Option X) → o ≡ None → IsSome o → ⊥
some_none None e h = cc
some_none (Some x) e h = cc

by_place : (ids : List FeatureId) (index : Index) (id : FeatureId) (o : Option ℕ) → IsIndex ids index → place_of index id ≡ o → place_of index id ≡ number_among ids id
unfolding number_among
by_place ids index id None is e = e ∙ sym (nowhere ids id 0 (λ k there. some_none (place_of index id) e (is.whole id k there)))
by_place ids index id (Some k) is e =
    let first = is.only id k e in
    let none : 0 + k ≡ k = omega arith in
    e ∙ ap (λ i. Some i) (sym none) ∙ sym (found_at ids id 0 k first.here first.first)

pub number_exact : (ids : List FeatureId) (index : Index) → IsIndex ids index → (id : FeatureId) → place_of index id ≡ number_among ids id
number_exact ids index is id = by_place ids index id (place_of index id) is refl

pub few_places : (ids : List FeatureId) (index : Index) → length ids ≤ 400000 → IsIndex ids index → HasFew index
few_places ids index short is = record { few = λ id k e. let within = slice_get_within ids k id (is.only id k e).here in omega arith }

-- ---- lists seen by their identifiers

position_map : {X : Type 0} (f : X → FeatureId) (id : FeatureId) (n : ℕ) (xs : List X) → position_from (λ other. is_same other id) n (map f xs) ≡ position_from (λ x. is_same (f x) id) n xs
position_map f id n [] = refl
position_map f id n (x ∷ xs) = ap (λ (o : Option ℕ). cond (is_same (f x) id) (Some n) o) (position_map f id (n + 1) xs)

pub number_map : {X : Type 0} (f : X → FeatureId) (xs : List X) (id : FeatureId) → number_among (map f xs) id ≡ position_from (λ x. is_same (f x) id) 0 xs
unfolding number_among
number_map f xs id = position_map f id 0 xs

-- ---- the first that passes a test, and its place

record IsFound {X : Type 0} (test : X → Bool) (n : ℕ) (xs : List X) : Type 0 where
  place : ℕ
  item : X
  position : position_from test n xs ≡ Some (n + place)
  there : slice_get xs place ≡ Some item
  first : find test xs ≡ Some item

searched : {X : Type 0} (test : X → Bool) (n : ℕ) (xs : List X) → ((position_from test n xs ≡ None) × (find test xs ≡ None)) ⊎ IsFound test n xs
searched test n [] = inl (refl, refl)
searched test n (x ∷ xs) = elim (tested (test x)) [
  | inl passes ↦ inr (record {
    place = 0;
    item = x;
    position = let none : n ≡ n + 0 = omega arith in rw passes (ap (λ i. Some i) none);
    there = refl;
    first = rw passes refl;
  })
  | inr fails ↦ elim (searched test (n + 1) xs) [
    | inl none ↦ inl (rw fails none.0, rw fails none.1)
    | inr f ↦ inr (record {
      place = suc f.place;
      item = f.item;
      position = let moved : n + 1 + f.place ≡ n + suc f.place = omega arith in rw fails (f.position ∙ ap (λ i. Some i) moved);
      there = f.there;
      first = rw fails f.first;
    })
  ]
]

-- the node of the anchor of the occupant of this number
abbrev pub by_anchor : (FeatureId → Option ℕ) → Option FeatureId → Option ℕ
by_anchor g None = None
by_anchor g (Some anchor) = g anchor

abbrev pub by_number : (FeatureId → Option ℕ) → Option ℕ → List FeatureId → Option ℕ → Option ℕ
by_number g own anchors None = own
by_number g own anchors (Some k) = by_anchor g (slice_get anchors k)

abbrev pub by_row : (FeatureId → Option ℕ) → Option ℕ → Option OccupantRow → Option ℕ
by_row g own None = own
by_row g own (Some row) = g row.anchor

pub occupant_place : (g : FeatureId → Option ℕ) (own : Option ℕ) (test : OccupantRow → Bool) (rows : List OccupantRow)
    → by_number g own (map (λ (row : OccupantRow). row.anchor) rows) (position_from test 0 rows) ≡ by_row g own (find test rows)
occupant_place g own test rows = elim (searched test 0 rows) [
  | inl absent ↦ rw (absent.0, absent.1) refl
  | inr f ↦
      let start : 0 + f.place ≡ f.place = omega arith in
      let anchor_there : slice_get (map (λ (row : OccupantRow). row.anchor) rows) f.place ≡ Some f.item.anchor = at_map (λ (row : OccupantRow). row.anchor) rows f.place f.item f.there in
      let there : by_anchor g (slice_get (map (λ (row : OccupantRow). row.anchor) rows) f.place) ≡ g f.item.anchor = ap (by_anchor g) anchor_there in
      rw (f.position, f.first, start) there
]

anchor_same : (f g : FeatureId → Option ℕ) (o : Option FeatureId) → ((id : FeatureId) → f id ≡ g id) → by_anchor f o ≡ by_anchor g o
anchor_same f g None same = refl
anchor_same f g (Some anchor) same = same anchor

pub number_same : (f g : FeatureId → Option ℕ) (a b : Option ℕ) (anchors : List FeatureId) (o : Option ℕ) → ((id : FeatureId) → f id ≡ g id) → a ≡ b → by_number f a anchors o ≡ by_number g b anchors o
number_same f g a b anchors None same own = own
number_same f g a b anchors (Some k) same own = anchor_same f g (slice_get anchors k) same

-- ---- what a place says

-- at a place that is found stands what passes
at_position : {X : Type 0} (test : X → Bool) (n k : ℕ) (xs : List X) → position_from test n xs ≡ Some k → (i : ℕ) × (x : X) × (k ≡ n + i) × (slice_get xs i ≡ Some x) × (test x ≡ true)
at_position test n k [] e = cc
at_position test n k (x ∷ xs) e = elim (tested (test x)) [
  | inl passes ↦
      let here : Some n ≡ Some k = sym (first_here passes) ∙ e in
      let none : n ≡ n + 0 = omega arith in
      (0, x, sym (same_Some n k here) ∙ none, refl, passes)
  | inr fails ↦
      let rest = at_position test (n + 1) k xs (sym (later fails) ∙ e) in
      (suc rest.0, rest.1, (let moved : n + 1 + rest.0 ≡ n + suc rest.0 = omega arith in rest.2 ∙ moved), rest.3, rest.4)
] where
  first_here : test x ≡ true → position_from test n (x ∷ xs) ≡ Some n
  first_here h = rw h refl

  later : test x ≡ false → position_from test n (x ∷ xs) ≡ position_from test (n + 1) xs
  later h = rw h refl

from_zero : (k i : ℕ) → k ≡ 0 + i → k ≡ i
from_zero k i e = omega (arith, e)

pub stands_there : (ids : List FeatureId) (id : FeatureId) (k : ℕ) → number_among ids id ≡ Some k → slice_get ids k ≡ Some id
unfolding number_among
stands_there ids id k e =
    let at = at_position (λ other. is_same other id) 0 k ids e in
    let same : k ≡ at.0 = from_zero k at.0 at.2 in
    subst (λ (i : ℕ). slice_get ids i ≡ Some id) (sym same) (at.3 ∙ ap (λ y. Some y) (same_id at.1 id at.4))

pub position_within : {X : Type 0} (test : X → Bool) (xs : List X) (k : ℕ) → position_from test 0 xs ≡ Some k → k < length xs
position_within test xs k e =
    let at = at_position test 0 k xs e in
    let same : k ≡ at.0 = from_zero k at.0 at.2 in
    let within = slice_get_within xs at.0 at.1 at.3 in
    omega arith
