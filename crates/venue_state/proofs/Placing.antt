-- A place is found among places where it is found at a node.
use Rattle.std.proofs.Common.{◌≡◌, ◌∙◌, ℕ, suc, ◌+◌, ◌<◌, List, [], ◌∷◌, map, length, refl, sym, ap, Bool, true, false, inl, inr, Option, Some, None, arith, subst}
use Rattle.std.specs.Prelude.{◌||◌, slice_get, IfSome}
use Rattle.std.specs.List.{Contains, find, list_any, position_from}
use Rattle.std.proofs.lemmas.List.Folds.{list_any-append, list_any-from_Any}
use Rattle.venue_types.specs.declared.feature_id.FeatureId.{FeatureId}
use Rattle.venue_types.specs.declared.features.Features.{Features}
use Rattle.venue_types.specs.declared.features.AmenityRow.{AmenityRow}
use Rattle.venue_types.specs.declared.features.AnchorRow.{AnchorRow}
use Rattle.venue_types.specs.declared.features.OccupantRow.{OccupantRow}
use Rattle.venue_types.specs.declared.features.OpeningRow.{OpeningRow}
use Rattle.venue_types.specs.declared.features.UnitRow.{UnitRow}
use Rattle.venue_types.specs.declared.link.Node.{Node}
use Rattle.venue_types.specs.declared.reply.PlaceRow.{PlaceRow}
use Rattle.venue_types.specs.declared.settings.Settings.{Settings}
use Rattle.venue_history.specs.Laws.{OccupantsHaveAnchors}
use Rattle.route_search.specs.Identity.{is_same}
use Rattle.route_search.specs.Nodes.{place_nodes, place_node_rows, nodes, node_number, place_of, walkable_units}
use Rattle.route_search.proofs.Identifiers.{id_same}
use Rattle.route_search.proofs.Finding.{position_within}
use Rattle.route_search.proofs.Placed.{place_within}
use Rattle.venue_history.specs.Places.{places}
use Rattle.venue_history.specs.PlaceNumbers.{place_number}
use Rattle.venue_history.specs.Answers.{place_row}
use Rattle.venue_state.proofs.Marking.{tested}

-- ---- tests over lists

any_map : {X Y : Type 0} (p : Y → Bool) (f : X → Y) (xs : List X) → list_any p (map f xs) ≡ list_any (λ x. p (f x)) xs
any_map p f [] = refl
any_map p f (x ∷ xs) = ap (λ (b : Bool). p (f x) || b) (any_map p f xs)

any_has : {X : Type 0} (p : X → Bool) (xs : List X) (x : X) → Contains xs x → p x ≡ true → list_any p xs ≡ true
any_has p xs x c e = list_any-from_Any p xs (c.0, x, c.1, c.2, e)

-- a position is found where an item passes
none_passes : {X : Type 0} (p : X → Bool) (n : ℕ) (xs : List X) → position_from p n xs ≡ None → list_any p xs ≡ false
none_passes p n [] e = refl
none_passes p n (x ∷ xs) e = elim (tested (p x)) [
  | inl passes ↦ absurd (some_none (sym (found passes) ∙ e))
  | inr fails ↦ rw fails (none_passes p (n + 1) xs (sym (later fails) ∙ e))
] where
  some_none : Some n ≡ None → ⊥
  some_none h = cc

  found : p x ≡ true → position_from p n (x ∷ xs) ≡ Some n
  found h = rw h refl

  later : p x ≡ false → position_from p n (x ∷ xs) ≡ position_from p (n + 1) xs
  later h = rw h refl

no_position : {X : Type 0} (p : X → Bool) (n : ℕ) (xs : List X) → list_any p xs ≡ false → position_from p n xs ≡ None
no_position p n [] e = refl
no_position p n (x ∷ xs) e = elim (tested (p x)) [
  | inl passes ↦ absurd (true_false (sym (found passes) ∙ e))
  | inr fails ↦ rw fails (no_position p (n + 1) xs (sym (later fails) ∙ e))
] where
  true_false : true ≡ false → ⊥
  true_false h = cc

  found : p x ≡ true → list_any p (x ∷ xs) ≡ true
  found h = rw h refl

  later : p x ≡ false → list_any p (x ∷ xs) ≡ list_any p xs
  later h = rw h refl

some_position : {X : Type 0} (p : X → Bool) (xs : List X) (o : Option ℕ) → position_from p 0 xs ≡ o → list_any p xs ≡ true → (k : ℕ) × (position_from p 0 xs ≡ Some k)
some_position p xs None is e = absurd (true_false (sym e ∙ none_passes p 0 xs is)) where
  true_false : true ≡ false → ⊥
  true_false h = cc
some_position p xs (Some k) is e = (k, is)

one_passes : {X : Type 0} (p : X → Bool) (xs : List X) (k : ℕ) → position_from p 0 xs ≡ Some k → list_any p xs ≡ true
one_passes p xs k e = elim (tested (list_any p xs)) [
  | inl passes ↦ passes
  | inr fails ↦ absurd (some_none (sym e ∙ no_position p 0 xs fails))
] where
  some_none : Some k ≡ None → ⊥
  some_none h = cc

found_none : {X : Type 0} (p : X → Bool) (xs : List X) → list_any p xs ≡ false → find p xs ≡ None
found_none p [] e = refl
found_none p (x ∷ xs) e = elim (tested (p x)) [
  | inl passes ↦ absurd (true_false (sym (found passes) ∙ e))
  | inr fails ↦ rw fails (found_none p xs (sym (later fails) ∙ e))
] where
  true_false : true ≡ false → ⊥
  true_false h = cc

  found : p x ≡ true → list_any p (x ∷ xs) ≡ true
  found h = rw h refl

  later : p x ≡ false → list_any p (x ∷ xs) ≡ list_any p xs
  later h = rw h refl

find_skip : {X : Type 0} (p : X → Bool) (x : X) (xs : List X) → p x ≡ false → find p (x ∷ xs) ≡ find p xs
find_skip p x xs e = rw e refl

find_here : {X : Type 0} (p : X → Bool) (x : X) (xs : List X) → p x ≡ true → find p (x ∷ xs) ≡ Some x
find_here p x xs e = rw e refl

any_skip : {X : Type 0} (p : X → Bool) (x : X) (xs : List X) → p x ≡ false → list_any p (x ∷ xs) ≡ list_any p xs
any_skip p x xs e = rw e refl

position_skip : {X : Type 0} (p : X → Bool) (n : ℕ) (x : X) (xs : List X) → p x ≡ false → position_from p n (x ∷ xs) ≡ position_from p (n + 1) xs
position_skip p n x xs e = rw e refl

position_here : {X : Type 0} (p : X → Bool) (n : ℕ) (x : X) (xs : List X) → p x ≡ true → position_from p n (x ∷ xs) ≡ Some n
position_here p n x xs e = rw e refl

found_one : {X : Type 0} (p : X → Bool) (xs : List X) → list_any p xs ≡ true → (x : X) × (find p xs ≡ Some x) × Contains xs x
found_one p [] e = absurd (cc e)
found_one p (x ∷ xs) e = elim (tested (p x)) [
  | inl passes ↦ (x, find_here p x xs passes, (0, omega arith, refl))
  | inr fails ↦
      let rest = found_one p xs (sym (any_skip p x xs fails) ∙ e) in
      (rest.0, find_skip p x xs fails ∙ rest.1, (suc rest.2.0, (let within : rest.2.0 < length xs = rest.2.1 in omega arith), rest.2.2))
]

find_there : {X : Type 0} (p : X → Bool) (n k : ℕ) (xs : List X) → position_from p n xs ≡ Some k → (i : ℕ) × (k ≡ n + i) × (find p xs ≡ slice_get xs i)
find_there p n k [] e = absurd (cc e)
find_there p n k (x ∷ xs) e = elim (tested (p x)) [
  | inl passes ↦ (0, here (sym (position_here p n x xs passes) ∙ e), find_here p x xs passes)
  | inr fails ↦
      let rest = find_there p (n + 1) k xs (sym (position_skip p n x xs fails) ∙ e) in
      (suc rest.0, (let moved : n + 1 + rest.0 ≡ n + suc rest.0 = omega arith in rest.1 ∙ moved), find_skip p x xs fails ∙ rest.2)
] where
  here : Some n ≡ Some k → k ≡ n + 0
  here h = let same : n ≡ k = cc h in omega arith

-- ---- places and nodes of an identifier

module _ (features : Features) (id : FeatureId) where
  amenities : Bool
  amenities = list_any (λ (row : AmenityRow). is_same row.id id) features.amenities

  anchors : Bool
  anchors = list_any (λ (row : AnchorRow). is_same row.id id) features.anchors

  occupants : Bool
  occupants = list_any (λ (row : OccupantRow). is_same row.id id) features.occupants

  openings : Bool
  openings = list_any (λ (row : OpeningRow). is_same row.id id) features.openings

  units : Bool
  units = list_any (λ (row : UnitRow). is_same row.id id) (walkable_units features)

any_places : (features : Features) (id : FeatureId) → list_any (λ (row : PlaceRow). is_same row.id id) (places features)
    ≡ ((((amenities features id || anchors features id) || occupants features id) || openings features id) || units features id)
unfolding places amenities anchors occupants openings units
any_places features id = simp (list_any-append, any_map)

any_nodes : (features : Features) (id : FeatureId) → list_any (λ (node : Node). is_same node.id id) (place_nodes features)
    ≡ (((amenities features id || anchors features id) || openings features id) || units features id)
unfolding place_nodes place_node_rows amenities anchors openings units
any_nodes features id = simp (list_any-append, any_map)

or_parts : (a h o p u : Bool) → ((((a || h) || o) || p) || u) ≡ false → (o ≡ false) × ((((a || h) || p) || u) ≡ false)
or_parts true h o p u e = absurd (cc e)
or_parts false true o p u e = absurd (cc e)
or_parts false false true p u e = absurd (cc e)
or_parts false false false p u e = (refl, e)

or_other : (a h o p u : Bool) → ((((a || h) || o) || p) || u) ≡ true → o ≡ false → (((a || h) || p) || u) ≡ true
or_other true h o p u e none = refl
or_other false true o p u e none = refl
or_other false false true p u e none = absurd (cc none)
or_other false false false p u e none = e

or_anchor : (a h p u : Bool) → h ≡ true → (((a || h) || p) || u) ≡ true
or_anchor true h p u e = refl
or_anchor false true p u e = refl
or_anchor false false p u e = absurd (cc e)

-- what is no place is at no node
pub no_place : (features : Features) (id : FeatureId) → place_number features id ≡ None → place_of features id ≡ None
unfolding place_number place_of occupants
no_place features id e =
    let parts = or_parts (amenities features id) (anchors features id) (occupants features id) (openings features id) (units features id) (sym (any_places features id) ∙ none_passes (λ (row : PlaceRow). is_same row.id id) 0 (places features) e) in
    let none : find (λ (row : OccupantRow). is_same row.id id) features.occupants ≡ None = found_none (λ (row : OccupantRow). is_same row.id id) features.occupants parts.0 in
    let number : node_number features id ≡ None = no_position (λ (node : Node). is_same node.id id) 0 (place_nodes features) (any_nodes features id ∙ parts.1) in
    rw (none, place_of) number

some_node : (features : Features) (id : FeatureId) → (((amenities features id || anchors features id) || openings features id) || units features id) ≡ true
    → (n : ℕ) × (node_number features id ≡ Some n)
some_node features id e = some_position (λ (node : Node). is_same node.id id) (place_nodes features) (node_number features id) refl (any_nodes features id ∙ e)

anchored : (features : Features) (occupant : OccupantRow) → OccupantsHaveAnchors features → Contains features.occupants occupant
    → (n : ℕ) × (node_number features occupant.anchor ≡ Some n)
unfolding anchors
anchored features occupant have c =
    let anchor = have occupant c in
    some_node features occupant.anchor (or_anchor (amenities features occupant.anchor) (anchors features occupant.anchor) (openings features occupant.anchor) (units features occupant.anchor)
    (any_has (λ (row : AnchorRow). is_same row.id occupant.anchor) features.anchors anchor.one anchor.is.has (id_same anchor.one.id occupant.anchor anchor.is.named)))

by_occupant : (features : Features) (id : FeatureId) (occupant : OccupantRow) (n : ℕ) → find (λ (row : OccupantRow). is_same row.id id) features.occupants ≡ Some occupant
    → node_number features occupant.anchor ≡ Some n → place_of features id ≡ Some n
unfolding place_of
by_occupant features id occupant n found e = rw (found, place_of) e

by_itself : (features : Features) (id : FeatureId) (n : ℕ) → find (λ (row : OccupantRow). is_same row.id id) features.occupants ≡ None
    → node_number features id ≡ Some n → place_of features id ≡ Some n
unfolding place_of
by_itself features id n found e = rw (found, place_of) e

-- a place is at a node, where occupants have their anchors
pub placed : (features : Features) (id : FeatureId) (k : ℕ) → OccupantsHaveAnchors features → place_number features id ≡ Some k → (n : ℕ) × (place_of features id ≡ Some n)
unfolding place_number occupants
placed features id k have e =
    let any = sym (any_places features id) ∙ one_passes (λ (row : PlaceRow). is_same row.id id) (places features) k e in
    elim (tested (occupants features id)) [
      | inl there ↦
          let one = found_one (λ (row : OccupantRow). is_same row.id id) features.occupants there in
          let node = anchored features one.0 have one.2 in
          (node.0, by_occupant features id one.0 node.0 one.1 node.1)
      | inr none ↦
          let node = some_node features id (or_other (amenities features id) (anchors features id) (occupants features id) (openings features id) (units features id) any none) in
          (node.0, by_itself features id node.0 (found_none (λ (row : OccupantRow). is_same row.id id) features.occupants none) node.1)
    ]

pub some_within : (features : Features) (settings : Settings) (id : FeatureId) (o : Option ℕ) → o ≡ place_of features id → IfSome o (λ n. n < length (nodes features settings))
some_within features settings id None e = tt
some_within features settings id (Some n) e = place_within features settings id n (sym e)

pub place_short : (features : Features) (id : FeatureId) (k : ℕ) → place_number features id ≡ Some k → k < length (places features)
unfolding place_number
place_short features id k e = position_within (λ (row : PlaceRow). is_same row.id id) (places features) k e

-- the row of a place is that of its number
pub row_there : (features : Features) (id : FeatureId) (k : ℕ) (row : PlaceRow) → place_number features id ≡ Some k → slice_get (places features) k ≡ Some row
    → place_row features id ≡ Some row
unfolding place_number place_row
row_there features id k row e at =
    let there = find_there (λ (row : PlaceRow). is_same row.id id) 0 k (places features) e in
    let same : there.0 ≡ k = omega (arith, there.1) in
    there.2 ∙ subst (λ (i : ℕ). slice_get (places features) i ≡ Some row) (sym same) at
