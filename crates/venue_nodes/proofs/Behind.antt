-- The nodes of corners stand behind those of the places.
use Rattle.std.proofs.Common.{◌≡◌, ◌+◌, ◌≤◌, List, [], ◌∷◌, ◌++◌, map, filter, flat_map, length, inl, inr, refl, sym, ap, ap₂, ◌∙◌, arith, length-append}
use Rattle.std.proofs.lemmas.Bool.{cases_lt}
use Rattle.std.proofs.lemmas.List.{length-map, map-append}
use Rattle.venue_types.specs.declared.features.Features.{Features}
use Rattle.venue_types.specs.declared.features.UnitRow.{UnitRow}
use Rattle.venue_types.specs.declared.link.Node.{Node}
use Rattle.venue_types.specs.declared.settings.Inside.{Inside}
use Rattle.venue_types.specs.declared.settings.Inside.TheVariants.{Straight, Clear}
use Rattle.venue_types.specs.declared.settings.Settings.{Settings}
use Rattle.feature_rows.specs.Sound.{AreSound}
use Rattle.venue_nodes.specs.Limits.{HasManyNodes}
use Rattle.venue_nodes.specs.declared.corner_nodes.CornerRange.{CornerRange}
use Rattle.venue_nodes.specs.Making.{CanPlace}
use Rattle.venue_nodes.specs.Naming.{can_walk}
use Rattle.venue_nodes.specs.Views.{ranges_from, corner_counts}
use Rattle.venue_nodes.specs.Nodes.{corner_points, node_of_row, place_node_rows, place_nodes, walkable_units, corner_rows, room_corners, node_rows, nodes}
use Rattle.venue_nodes.proofs.Counts.{are_few, few_places}
use Rattle.venue_nodes.proofs.CornerTotals.{few_room_corners}

pub corners_behind : (features : Features) (settings : Settings) → nodes features settings ≡ place_nodes features ++ map node_of_row (room_corners features settings)
unfolding nodes node_rows place_nodes
corners_behind features settings = map-append node_of_row (place_node_rows features) (room_corners features settings)

pub nodes_long : (features : Features) (settings : Settings) → length (nodes features settings) ≡ length (place_nodes features) + length (room_corners features settings)
nodes_long features settings =
    let whole = ap length (corners_behind features settings) in
    let both = length-append (place_nodes features) (map node_of_row (room_corners features settings)) in
    let made = length-map (room_corners features settings) node_of_row in
    omega arith

pub few_nodes : (features : Features) (settings : Settings) → AreSound features → length (nodes features settings) ≤ 1100000
few_nodes features settings sound =
    omega (arith, nodes_long features settings, few_places features (are_few features sound), few_room_corners features settings sound)

-- ---- where one walks straight there are no corners

none_each : (rows : List UnitRow) → length (flat_map (corner_rows Straight) rows) ≡ 0
none_each [] = refl
none_each (row ∷ rows) = none_each rows

no_corners : (features : Features) (settings : Settings) → settings.inside ≡ Straight → length (room_corners features settings) ≡ 0
unfolding room_corners
no_corners features settings straight = rw straight (none_each (walkable_units features))

pub straight_nodes : (features : Features) (settings : Settings) → AreSound features → settings.inside ≡ Straight → length (nodes features settings) ≤ 400000
straight_nodes features settings sound straight =
    omega (arith, nodes_long features settings, few_places features (are_few features sound), no_corners features settings straight)

-- ---- where no limit is passed there are few nodes

by_inside : (features : Features) (settings : Settings) (inside : Inside) → AreSound features → ¬ HasManyNodes features settings → settings.inside ≡ inside → length (nodes features settings) ≤ 400000
by_inside features settings Straight sound few is = straight_nodes features settings sound is
by_inside features settings Clear sound few is = elim (cases_lt 400000 (length (nodes features settings))) [
  | inl many ↦ absurd (few (is, many))
  | inr within ↦ omega arith
]

pub clear_nodes : (features : Features) (settings : Settings) → AreSound features → ¬ HasManyNodes features settings → length (nodes features settings) ≤ 400000
clear_nodes features settings sound few = by_inside features settings settings.inside sound few refl

-- ---- what is made

pub nodes_made : (features : Features) (settings : Settings) (places after : List Node) (units : List UnitRow) → places ≡ place_nodes features → units ≡ features.units
    → after ≡ places ++ map node_of_row (flat_map (corner_rows settings.inside) (filter can_walk units)) → after ≡ nodes features settings
unfolding room_corners
nodes_made features settings places after units first rows added =
    added
    ∙ ap₂ (λ (list : List Node) (us : List UnitRow). list ++ map node_of_row (flat_map (corner_rows settings.inside) (filter can_walk us))) first rows
    ∙ sym (corners_behind features settings)

pub corners_fit : (features : Features) (settings : Settings) (places : List Node) (units : List UnitRow) → CanPlace features → places ≡ place_nodes features → units ≡ features.units
    → length places + length (flat_map (corner_rows settings.inside) (filter can_walk units)) ≤ 1100000
unfolding room_corners
corners_fit features settings places units can first rows =
    let few = few_places features can.few in
    let corners = can.few_corners settings in
    let front = ap (λ (list : List Node). length list) first in
    let behind = ap (λ (us : List UnitRow). length (flat_map (corner_rows settings.inside) (filter can_walk us))) rows in
    omega arith

pub nodes_fit : (features : Features) (settings : Settings) (list : List Node) → CanPlace features → list ≡ nodes features settings → length list ≤ 1100000
nodes_fit features settings list can e =
    let few = few_places features can.few in
    let corners = can.few_corners settings in
    let all = ap (λ (made : List Node). length made) e in
    omega (arith, nodes_long features settings)

pub ranges_made : (features : Features) (settings : Settings) (places : List Node) (ranges : List CornerRange) (units : List UnitRow) → places ≡ place_nodes features → units ≡ features.units
    → ranges ≡ ranges_from (length places) (map (λ (row : UnitRow). length (corner_points settings.inside row)) (filter can_walk units)) → ranges ≡ ranges_from (length (place_nodes features)) (corner_counts features settings)
ranges_made features settings places ranges units first rows made =
    made ∙ ap₂ (λ (list : List Node) (us : List UnitRow). ranges_from (length list) (map (λ (row : UnitRow). length (corner_points settings.inside row)) (filter can_walk us))) first rows
