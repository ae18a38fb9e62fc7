-- Where corners come from, and that the first node of an identifier is a place.
use Rattle.std.proofs.Common.{◌≡◌, ℕ, ◌+◌, Bool, true, false, cond, List, [], ◌∷◌, ◌++◌, Option, Some, None, map, refl, sym, ap, ◌∙◌, ◌⊎◌, inl, inr}
use Rattle.std.specs.Prelude.{Contains}
use Rattle.std.specs.List.{position_from}
use Rattle.std.proofs.lemmas.List.Elements.{Contains-append_right}
use Rattle.venue_types.proofs.Items.{Contains-nil, Contains-first, Contains-later, Contains-cons_cases, Contains-flat_map}
use Rattle.venue_types.specs.declared.feature_id.FeatureId.{FeatureId}
use Rattle.venue_types.specs.declared.features.Features.{Features}
use Rattle.venue_types.specs.declared.features.UnitRow.{UnitRow}
use Rattle.venue_types.specs.declared.link.Node.{Node}
use Rattle.venue_types.specs.declared.point.Point.{Point}
use Rattle.venue_types.specs.declared.settings.Settings.{Settings}
use Rattle.plane_exact.specs.Figure.{vertices}
use Rattle.venue_nodes.specs.Identity.{is_same}
use Rattle.venue_nodes.specs.Nodes.{NodeRow, amenity, anchor, opening, unit, corner, node_of_row, corner_points, corner_rows, corner_rows_from, place_node_rows, place_nodes, room_corners, nodes, node_number, walkable_units}
use Rattle.venue_nodes.proofs.Behind.{corners_behind}
use Rattle.venue_nodes.proofs.CornerSteps.{points_among}
use Rattle.venue_nodes.proofs.Finding.{tested}
use Rattle.venue_nodes.proofs.Judged.{Contains-map}

-- ---- where corners come from

pub from_map : {X Y : Type 0} (f : X → Y) (xs : List X) (y : Y) → Contains (map f xs) y → (x : X) × Contains xs x × (f x ≡ y)
from_map f [] y h = absurd (Contains-nil y h)
from_map f (x ∷ xs) y h = elim (Contains-cons_cases (f x) (map f xs) y h) [
  | inl here ↦ (x, Contains-first x xs, here)
  | inr there ↦ let rest = from_map f xs y there in (rest.0, Contains-later x xs rest.0 rest.1, rest.2)
]

-- the row is one of these positions, numbered
record IsNumbered (row : UnitRow) (points : List Point) (made : NodeRow) : Type 0 where
  number : ℕ
  point : Point
  among : Contains points point
  is : corner row number point ≡ made

numbered_from : (row : UnitRow) (n : ℕ) (points : List Point) (made : NodeRow) → Contains (corner_rows_from row n points) made → IsNumbered row points made
numbered_from row n [] made h = absurd (Contains-nil made h)
numbered_from row n (p ∷ ps) made h = elim (Contains-cons_cases (corner row n p) (corner_rows_from row (n + 1) ps) made h) [
  | inl here ↦ record { number = n; point = p; among = Contains-first p ps; is = here }
  | inr there ↦
      let rest = numbered_from row (n + 1) ps made there in
      record { number = rest.number; point = rest.point; among = Contains-later p ps rest.point rest.among; is = rest.is }
]

-- the row is a corner of a unit that can be walked through, at one of its positions
pub record IsRoomCorner (features : Features) (made : NodeRow) : Type 0 where
  pub row : UnitRow
  pub number : ℕ
  pub point : Point
  pub walks : Contains (walkable_units features) row
  pub vertex : Contains (vertices row.shape) point
  pub is : corner row number point ≡ made

pub corner_from : (features : Features) (settings : Settings) (made : NodeRow) → Contains (room_corners features settings) made → IsRoomCorner features made
unfolding room_corners
corner_from features settings made h =
    let (row, walks, here) = (Contains-flat_map (corner_rows settings.inside) (walkable_units features) made).0 h in
    let numbered = numbered_from row 1 (corner_points settings.inside row) made here in
    record {
      row = row;
      number = numbered.number;
      point = numbered.point;
      walks = walks;
      vertex = points_among settings.inside row numbered.point numbered.among;
      is = numbered.is;
    }

-- ---- the first that passes a test, with more behind

none_there : {X : Type 0} (test : X → Bool) (n : ℕ) (ys : List X) → ((y : X) → Contains ys y → test y ≡ false) → position_from test n ys ≡ None
none_there test n [] fails = refl
none_there test n (y ∷ ys) fails = rw (fails y (Contains-first y ys)) (none_there test (n + 1) ys (λ z h. fails z (Contains-later y ys z h)))

past_failing : {X : Type 0} (test : X → Bool) (n : ℕ) (xs ys : List X) → ((y : X) → Contains ys y → test y ≡ false) → position_from test n (xs ++ ys) ≡ position_from test n xs
past_failing test n [] ys fails = none_there test n ys fails
past_failing test n (x ∷ xs) ys fails = ap (λ (o : Option ℕ). cond (test x) (Some n) o) (past_failing test (n + 1) xs ys fails)

before_passing : {X : Type 0} (test : X → Bool) (n : ℕ) (xs ys : List X) (x : X) → Contains xs x → test x ≡ true → position_from test n (xs ++ ys) ≡ position_from test n xs
before_passing test n [] ys x h passes = absurd (Contains-nil x h)
before_passing test n (z ∷ xs) ys x h passes = elim (Contains-cons_cases z xs x h) [
  | inl here ↦ let first : test z ≡ true = ap test here ∙ passes in rw first refl
  | inr there ↦ ap (λ (o : Option ℕ). cond (test z) (Some n) o) (before_passing test (n + 1) xs ys x there passes)
]

-- all fail, or one passes
some_passes : {X : Type 0} (test : X → Bool) (ys : List X) → ((y : X) → Contains ys y → test y ≡ false) ⊎ ((y : X) × Contains ys y × (test y ≡ true))
some_passes test [] = inl (λ y h. absurd (Contains-nil y h))
some_passes {X} test (z ∷ ys) = elim (tested (test z)) [
  | inl passes ↦ inr (z, Contains-first z ys, passes)
  | inr fails ↦ elim (some_passes test ys) [
    | inl none ↦ inl (λ y h. elim (Contains-cons_cases z ys y h) [
      | inl here ↦ ap test (sym here) ∙ fails
      | inr there ↦ none y there
    ])
    | inr one ↦ inr (one.0, Contains-later z ys one.0 one.1, one.2)
  ]
]

-- where whatever passes behind has one before it that passes too
first_before : {X : Type 0} (test : X → Bool) (n : ℕ) (xs ys : List X) → ((y : X) → Contains ys y → test y ≡ true → (x : X) × Contains xs x × (test x ≡ true)) → position_from test n (xs ++ ys) ≡ position_from test n xs
first_before test n xs ys before = elim (some_passes test ys) [
  | inl none ↦ past_failing test n xs ys none
  | inr one ↦ let front = before one.0 one.1 one.2 in before_passing test n xs ys front.0 front.1 front.2
]

-- ---- the first node of an identifier

abbrev pub has_id : FeatureId → Node → Bool
has_id id node = is_same node.id id

-- the node of a walkable unit is among those of places
unit_there : (features : Features) (row : UnitRow) → Contains (walkable_units features) row → Contains (place_nodes features) (node_of_row (unit row))
unfolding place_nodes place_node_rows
unit_there features row walks = Contains-map node_of_row (place_node_rows features) (unit row)
    (Contains-append_right (map amenity features.amenities ++ map anchor features.anchors ++ map opening features.openings) (map unit (walkable_units features)) (unit row) (Contains-map unit (walkable_units features) row walks))

unit_before : (features : Features) (settings : Settings) (id : FeatureId) (node : Node) → Contains (map node_of_row (room_corners features settings)) node → has_id id node ≡ true
    → (first : Node) × Contains (place_nodes features) first × (has_id id first ≡ true)
unit_before features settings id node h passes =
    let (made, there, is) = from_map node_of_row (room_corners features settings) node h in
    let at = corner_from features settings made there in
    let same : has_id id (node_of_row (corner at.row at.number at.point)) ≡ true = ap (λ (r : NodeRow). has_id id (node_of_row r)) at.is ∙ ap (has_id id) is ∙ passes in
    (node_of_row (unit at.row), unit_there features at.row at.walks, same)

pub first_is_place : (features : Features) (settings : Settings) (id : FeatureId) → position_from (has_id id) 0 (nodes features settings) ≡ node_number features id
first_is_place features settings id =
    ap (λ (list : List Node). position_from (has_id id) 0 list) (corners_behind features settings)
    ∙ first_before (has_id id) 0 (place_nodes features) (map node_of_row (room_corners features settings)) (unit_before features settings id)
