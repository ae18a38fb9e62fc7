-- Each spot is on each axis the sum of two judged coordinates, so any two are close where judged positions are.
use Rattle.std.proofs.Common.{◌≡◌, ◌≤◌, ℤ, ◌+ℤ◌, Bool, true, false, cond, List, [], ◌∷◌, ◌++◌, map, filter, fold, length, flat_map, Option, Some, None, refl, sym, ap₂, subst, ◌⊎◌, inl, inr, arith, length-append}
use Rattle.std.specs.Prelude.{Contains}
use Rattle.std.specs.Int.{int_min, int_max}
use Rattle.std.proofs.lemmas.Int.{ints, fold-int_min_reached, fold-int_max_reached}
use Rattle.std.proofs.lemmas.List.Elements.{All-contains, All-head, Contains-append_cases}
use Rattle.venue_types.proofs.Items.{Contains-first, Contains-later, Contains-cons_cases}
use Rattle.venue_types.specs.declared.features.Features.{Features}
use Rattle.venue_types.specs.declared.features.OpeningRow.{OpeningRow}
use Rattle.venue_types.specs.declared.features.UnitRow.{UnitRow}
use Rattle.venue_types.specs.declared.link.Node.{Node}
use Rattle.venue_types.specs.declared.point.Part.{Part}
use Rattle.venue_types.specs.declared.point.Point.{Point}
use Rattle.venue_types.specs.declared.point.Ring.{Ring}
use Rattle.venue_types.specs.declared.point.Spot.{Spot}
use Rattle.venue_types.specs.declared.folder_file.File.TheVariants as file
use Rattle.venue_types.specs.declared.settings.Settings.{Settings}
use Rattle.imdf_access.specs.Categories.{is_walkable}
use Rattle.plane_exact.specs.Plane.{IsWithin, IsCloseDoubled}
use Rattle.plane_exact.specs.Figure.{AllClose, vertices, rings}
use Rattle.feature_rows.specs.Figures.{judged_positions, display_of}
use Rattle.feature_rows.specs.Sound.{AreSound, IsSoundShape, IsSoundRing}
use Rattle.venue_nodes.specs.Nodes.{NodeRow, amenity, anchor, opening, unit, node_of_row, place_node_rows, room_corners, node_rows, nodes, walkable_units, middle, last_point, line_middle, box_middle, unit_spot}
pub use Rattle.venue_nodes.proofs.CornerRows.{from_map}
use Rattle.venue_nodes.proofs.CornerRows.{corner_from}
use Rattle.venue_nodes.proofs.Judged.{Contains-map, amenity_point, anchor_point, opening_point, unit_vertex, unit_display}

-- a spot's coordinates are sums of those of such points
pub record IsSummed (points : List Point) (spot : Spot) : Type 0 where
  pub a : Point
  pub b : Point
  pub c : Point
  pub d : Point
  pub has_a : Contains points a
  pub has_b : Contains points b
  pub has_c : Contains points c
  pub has_d : Contains points d
  pub x : spot.x ≡ a.x +ℤ b.x
  pub y : spot.y ≡ c.y +ℤ d.y

sums_within : (s t a b c d : ℤ) → s ≡ a +ℤ b → t ≡ c +ℤ d → IsWithin 200000000 a c → IsWithin 200000000 b d → IsWithin 400000000 s t
sums_within s t a b c d e f h k = record { above = omega (arith, ints); below = omega (arith, ints) }

pub close_sums : (points : List Point) (s t : Spot) → AllClose points → IsSummed points s → IsSummed points t → IsCloseDoubled s t
close_sums points s t close h k = record {
  x = sums_within s.x t.x h.a.x h.b.x k.a.x k.b.x h.x k.x (close.close h.a k.a h.has_a k.has_a).x (close.close h.b k.b h.has_b k.has_b).x;
  y = sums_within s.y t.y h.c.y h.d.y k.c.y k.d.y h.y k.y (close.close h.c k.c h.has_c k.has_c).y (close.close h.d k.d h.has_d k.has_d).y;
}

middle_summed : (points : List Point) (a b : Point) → Contains points a → Contains points b → IsSummed points (middle a b)
middle_summed points a b h k = record { a = a; b = b; c = a; d = b; has_a = h; has_b = k; has_c = h; has_d = k; x = refl; y = refl }

-- ---- what stands in a filtered list

from_one : {X : Type 0} (b : Bool) (x : X) (ys xs : List X) (y : X) → ((z : X) → Contains ys z → Contains xs z) → Contains (cond b (x ∷ ys) ys) y → Contains (x ∷ xs) y
from_one true x ys xs y within h = elim (Contains-cons_cases x ys y h) [
  | inl here ↦ subst (λ z. Contains (x ∷ xs) z) here (Contains-first x xs)
  | inr there ↦ Contains-later x xs y (within y there)
]
from_one false x ys xs y within h = Contains-later x xs y (within y h)

from_filter : {X : Type 0} (test : X → Bool) (xs : List X) (y : X) → Contains (filter test xs) y → Contains xs y
from_filter test [] y h = h
from_filter test (x ∷ xs) y h = from_one (test x) x (filter test xs) xs y (from_filter test xs) h

-- ---- lines

last_there : (a : Point) (rest : List Point) → Contains (a ∷ rest) (last_point a rest)
last_there a [] = Contains-first a []
last_there a (b ∷ rest) = Contains-later a (b ∷ rest) (last_point b rest) (last_there b rest)

line_summed : (all points : List Point) → 2 ≤ length points → ((p : Point) → Contains points p → Contains all p) → IsSummed all (line_middle points)
line_summed all [] some within = absurd (omega (arith, some))
line_summed all (a ∷ rest) some within = middle_summed all a (last_point a rest) (within a (Contains-first a rest)) (within (last_point a rest) (last_there a rest))

-- ---- boxes

axis_reached : (axis : Point → ℤ) (a : Point) (rest : List Point) (r : ℤ) → (r ≡ axis a) ⊎ Contains (map axis rest) r → (p : Point) × Contains (a ∷ rest) p × (r ≡ axis p)
axis_reached axis a rest r h = elim h [
  | inl first ↦ (a, Contains-first a rest, first)
  | inr later ↦ let at = from_map axis rest r later in (at.0, Contains-later a rest at.0 at.1, sym at.2)
]

least_of : (axis : Point → ℤ) (a : Point) (rest : List Point) → (p : Point) × Contains (a ∷ rest) p × (fold int_min (axis a) (map axis rest) ≡ axis p)
least_of axis a rest = axis_reached axis a rest _ (fold-int_min_reached (axis a) (map axis rest) (fold int_min (axis a) (map axis rest)) refl)

greatest_of : (axis : Point → ℤ) (a : Point) (rest : List Point) → (p : Point) × Contains (a ∷ rest) p × (fold int_max (axis a) (map axis rest) ≡ axis p)
greatest_of axis a rest = axis_reached axis a rest _ (fold-int_max_reached (axis a) (map axis rest) (fold int_max (axis a) (map axis rest)) refl)

box_summed : (all points : List Point) → 1 ≤ length points → ((p : Point) → Contains points p → Contains all p) → IsSummed all (box_middle points)
box_summed all [] some within = absurd (omega (arith, some))
box_summed all (p ∷ rest) some within =
    let west = least_of (λ (q : Point). q.x) p rest in
    let east = greatest_of (λ (q : Point). q.x) p rest in
    let south = least_of (λ (q : Point). q.y) p rest in
    let north = greatest_of (λ (q : Point). q.y) p rest in
    record {
      a = west.0;
      b = east.0;
      c = south.0;
      d = north.0;
      has_a = within west.0 west.1;
      has_b = within east.0 east.1;
      has_c = within south.0 south.1;
      has_d = within north.0 north.1;
      x = ap₂ (λ (m n : ℤ). m +ℤ n) west.2 east.2;
      y = ap₂ (λ (m n : ℤ). m +ℤ n) south.2 north.2;
    }

-- a sound shape has a vertex
some_vertex : (parts : List Part) → IsSoundShape (record { parts = parts }) → 1 ≤ length (vertices (record { parts = parts }))
some_vertex [] sound = let one = sound.one in absurd (omega arith)
some_vertex (part ∷ rest) sound =
    let ring : IsSoundRing part.outer = All-head IsSoundRing part.outer (part.holes ++ rings (record { parts = rest })) sound.rings in
    let four = ring.four in
    let whole = length-append part.outer.points (flat_map (λ (r : Ring). r.points) (part.holes ++ rings (record { parts = rest }))) in
    omega arith

-- ---- nodes

unit_summed : (features : Features) (row : UnitRow) (o : Option Point) → AreSound features → Contains features.units row → row.display ≡ o → IsSummed (judged_positions features) (unit_spot row)
unit_summed features row None sound own e =
    let shape : IsSoundShape row.shape = All-contains IsSoundShape (map (λ (r : UnitRow). r.shape) features.units) row.shape (sound.shapes file.Unit) (Contains-map (λ (r : UnitRow). r.shape) features.units row own) in
    rw e (box_summed (judged_positions features) (vertices row.shape) (some_vertex row.shape.parts shape) (λ p h. unit_vertex features row p own h))
unit_summed features row (Some p) sound own e =
    let shown : Contains (display_of row) p = rw e (Contains-first p []) in
    let judged = unit_display features row p own shown in
    rw e (middle_summed (judged_positions features) p p judged judged)

row_summed : (features : Features) (row : NodeRow) → AreSound features → Contains (place_node_rows features) row → IsSummed (judged_positions features) (node_of_row row).spot
unfolding place_node_rows
row_summed features row sound h = elim (Contains-append_cases (map amenity features.amenities ++ map anchor features.anchors ++ map opening features.openings) (map unit (walkable_units features)) row h) [
  | inl front ↦ elim (Contains-append_cases (map amenity features.amenities ++ map anchor features.anchors) (map opening features.openings) row front) [
    | inl points ↦ elim (Contains-append_cases (map amenity features.amenities) (map anchor features.anchors) row points) [
      | inl one ↦
          let at = from_map amenity features.amenities row one in
          let judged = amenity_point features at.0 at.1 in
          subst (λ (r : NodeRow). IsSummed (judged_positions features) (node_of_row r).spot) at.2 (middle_summed (judged_positions features) at.0.point at.0.point judged judged)
      | inr two ↦
          let at = from_map anchor features.anchors row two in
          let judged = anchor_point features at.0 at.1 in
          subst (λ (r : NodeRow). IsSummed (judged_positions features) (node_of_row r).spot) at.2 (middle_summed (judged_positions features) at.0.point at.0.point judged judged)
    ]
    | inr three ↦
        let at = from_map opening features.openings row three in
        let long = All-contains (λ (r : OpeningRow). 2 ≤ length r.line.points) features.openings at.0 sound.lines at.1 in
        subst (λ (r : NodeRow). IsSummed (judged_positions features) (node_of_row r).spot) at.2 (line_summed (judged_positions features) at.0.line.points long (λ p own. opening_point features at.0 p at.1 own))
  ]
  | inr four ↦
      let at = from_map unit (walkable_units features) row four in
      let own = from_filter (λ (r : UnitRow). is_walkable r.category) features.units at.0 at.1 in
      subst (λ (r : NodeRow). IsSummed (judged_positions features) (node_of_row r).spot) at.2 (unit_summed features at.0 at.0.display sound own refl)
]

corner_summed : (features : Features) (settings : Settings) (row : NodeRow) → Contains (room_corners features settings) row → IsSummed (judged_positions features) (node_of_row row).spot
corner_summed features settings row h =
    let at = corner_from features settings row h in
    let own = from_filter (λ (r : UnitRow). is_walkable r.category) features.units at.row at.walks in
    let judged = unit_vertex features at.row at.point own at.vertex in
    subst (λ (r : NodeRow). IsSummed (judged_positions features) (node_of_row r).spot) at.is (middle_summed (judged_positions features) at.point at.point judged judged)

pub node_summed : (features : Features) (settings : Settings) (node : Node) → AreSound features → Contains (nodes features settings) node → IsSummed (judged_positions features) node.spot
unfolding nodes node_rows
node_summed features settings node sound h =
    let at = from_map node_of_row (node_rows features settings) node h in
    let summed : IsSummed (judged_positions features) (node_of_row at.0).spot = elim (Contains-append_cases (place_node_rows features) (room_corners features settings) at.0 at.1) [
      | inl place ↦ row_summed features at.0 sound place
      | inr behind ↦ corner_summed features settings at.0 behind
    ] in
    subst (λ (n : Node). IsSummed (judged_positions features) n.spot) at.2 summed

pub nodes_close : (features : Features) (settings : Settings) (a b : Node) → AreSound features → AllClose (judged_positions features) → Contains (nodes features settings) a → Contains (nodes features settings) b → IsCloseDoubled a.spot b.spot
nodes_close features settings a b sound close h k = close_sums (judged_positions features) a.spot b.spot close (node_summed features settings a sound h) (node_summed features settings b sound k)
