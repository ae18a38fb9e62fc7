-- How many corners and edges there are, against how many positions.
use Rattle.std.proofs.Common.{◌≡◌, ℕ, suc, zero, ◌-◌, ◌≤◌, ℤ, Bool, true, false, cond, List, [], ◌∷◌, filter, length, Contains, inl, inr, refl, ap, sym, subst, flat_map, arith}
use Rattle.std.specs.List.{dedup, dedup_from}
use Rattle.std.proofs.lemmas.List.{length-map, length-append}
use Rattle.std.proofs.lemmas.List.Elements.{Contains-append_left, Contains-append_right, Contains-append_cases}
use Rattle.std.proofs.lemmas.List.Kept.{Contains-from_dedup}
use Rattle.venue_types.specs.declared.point.Point.{Point}
use Rattle.venue_types.specs.declared.point.Ring.{Ring}
use Rattle.venue_types.specs.declared.point.Part.{Part}
use Rattle.venue_types.specs.declared.point.Shape.{Shape}
use Rattle.plane_exact.specs.Figure.{edges, edges_from, all_edges, part_edges, rings, rings_of, ring_points, part_points, vertices}
use Rattle.plane_exact.specs.Corners.{Turn, is_corner, is_same, turns, turns_from, turns_round, last_but_one, ring_corners, hole_corners, part_corners, corners, doubled_area}
use Rattle.plane_exact.proofs.ListLemmas.{flat_map-flat_map}
use Rattle.plane_exact.proofs.NearbyLemmas.{Contains-later}
use Rattle.plane_exact.proofs.CornerLaws.{corner_of}

-- ---- lists in lists

pub fewer_each : {X Y Z : Type 0} (f : X → List Y) (g : X → List Z) (xs : List X) → ((x : X) → length (f x) ≤ length (g x)) → length (flat_map f xs) ≤ length (flat_map g xs)
fewer_each f g [] h = omega arith
fewer_each f g (x ∷ xs) h = omega (arith, h x, fewer_each f g xs h, length-append (f x) (flat_map f xs), length-append (g x) (flat_map g xs))

pub among_each : {X Y : Type 0} (f g : X → List Y) (xs : List X) (v : Y) → ((x : X) (y : Y) → Contains (f x) y → Contains (g x) y) → Contains (flat_map f xs) v → Contains (flat_map g xs) v
among_each f g [] v h within = within
among_each f g (x ∷ xs) v h within = elim (Contains-append_cases (f x) (flat_map f xs) v within) [
  | inl here ↦ Contains-append_left (g x) (flat_map g xs) v (h x v here)
  | inr later ↦ Contains-append_right (g x) (flat_map g xs) v (among_each f g xs v h later)
]

-- ---- equal neighbours taken once

either_fewer : {X : Type 0} (b : Bool) (us vs : List X) (n : ℕ) → length us ≤ n → length vs ≤ n → length (cond b us vs) ≤ n
either_fewer true us vs n h k = h
either_fewer false us vs n h k = k

fewer_from : {X : Type 0} (same : X → X → Bool) (k : X) (xs : List X) → length (dedup_from same k xs) ≤ suc (length xs)
fewer_from same k [] = omega arith
fewer_from same k (x ∷ xs) = either_fewer (same x k) (dedup_from same k xs) (k ∷ dedup_from same x xs) (suc (suc (length xs))) (omega (arith, fewer_from same k xs)) (omega (arith, fewer_from same x xs))

fewer_distinct : {X : Type 0} (same : X → X → Bool) (xs : List X) → length (dedup same xs) ≤ length xs
fewer_distinct same [] = omega arith
fewer_distinct same (x ∷ xs) = fewer_from same x xs

-- ---- turns

turns_long : (a b : Point) (rest : List Point) → length (turns_from a b rest) ≡ length rest
turns_long a b [] = refl
turns_long a b (c ∷ rest) = ap suc (turns_long b c rest)

turns_fewer : (points : List Point) → length (turns_round points) ≤ length points
turns_fewer [] = omega arith
turns_fewer (a ∷ []) = omega arith
turns_fewer (a ∷ b ∷ rest) = omega (arith, turns_long (last_but_one a b rest) a (b ∷ rest))

turn_among : (a b : Point) (rest : List Point) (turn : Turn) → Contains (turns_from a b rest) turn → Contains (b ∷ rest) turn.at
turn_among a b [] turn (k, within, at) = absurd (omega (arith, within))
turn_among a b (c ∷ rest) turn (zero, within, at) = (0, omega arith, ap (λ (t : Turn). t.at) at)
turn_among a b (c ∷ rest) turn (suc k, within, at) = Contains-later turn.at b (c ∷ rest) (turn_among b c rest turn (k, omega arith, at))

turn_round : (points : List Point) (turn : Turn) → Contains (turns_round points) turn → Contains points turn.at
turn_round [] turn (k, within, at) = absurd (omega (arith, within))
turn_round (a ∷ []) turn (k, within, at) = absurd (omega (arith, within))
turn_round (a ∷ b ∷ rest) turn h = turn_among (last_but_one a b rest) a (b ∷ rest) turn h

-- ---- corners of a ring

fewer_kept : {X : Type 0} (p : X → Bool) (xs : List X) → length (filter p xs) ≤ length xs
fewer_kept p [] = omega arith
fewer_kept p (x ∷ xs) = either_fewer (p x) (x ∷ filter p xs) (filter p xs) (suc (length xs)) (omega (arith, fewer_kept p xs)) (omega (arith, fewer_kept p xs))

pub ring_fewer : (area : ℤ) (ring : Ring) → length (ring_corners area ring) ≤ length ring.points
ring_fewer area ring = omega (arith, length-map (filter (is_corner area) (turns ring)) (λ (turn : Turn). turn.at), fewer_kept (is_corner area) (turns ring), turns_fewer (dedup is_same ring.points), fewer_distinct is_same ring.points)

pub ring_among : (area : ℤ) (ring : Ring) (v : Point) → Contains (ring_corners area ring) v → Contains ring.points v
ring_among area ring v h =
    let (turn, there, corner, is) = corner_of area (turns ring) v h in
    Contains-from_dedup is_same ring.points v (subst (λ (p : Point). Contains (dedup is_same ring.points) p) is (turn_round (dedup is_same ring.points) turn there))

-- ---- of a polygon

pub hole_fewer : (hole : Ring) → length (hole_corners hole) ≤ length hole.points
hole_fewer hole = ring_fewer _ hole

pub hole_among : (hole : Ring) (v : Point) → Contains (hole_corners hole) v → Contains hole.points v
hole_among hole v h = ring_among _ hole v h

pub part_fewer : (part : Part) → length (part_corners part) ≤ length (part_points part)
part_fewer part = omega (arith, ring_fewer (doubled_area part.outer) part.outer, fewer_each hole_corners (λ (ring : Ring). ring.points) part.holes hole_fewer, length-append (ring_corners (doubled_area part.outer) part.outer) (flat_map hole_corners part.holes), length-append part.outer.points (ring_points part.holes))

pub part_among : (part : Part) (v : Point) → Contains (part_corners part) v → Contains (part_points part) v
part_among part v h = elim (Contains-append_cases (ring_corners (doubled_area part.outer) part.outer) (flat_map hole_corners part.holes) v h) [
  | inl here ↦ Contains-append_left part.outer.points (ring_points part.holes) v (ring_among (doubled_area part.outer) part.outer v here)
  | inr later ↦ Contains-append_right part.outer.points (ring_points part.holes) v (among_each hole_corners (λ (ring : Ring). ring.points) part.holes v hole_among later)
]

-- ---- of a shape

-- the positions of a shape, polygon by polygon
pub vertices_of_parts : (shape : Shape) → vertices shape ≡ flat_map part_points shape.parts
vertices_of_parts shape = flat_map-flat_map (λ (ring : Ring). ring.points) rings_of shape.parts

-- its edges, polygon by polygon
pub edges_of_parts : (shape : Shape) → all_edges shape ≡ flat_map part_edges shape.parts
edges_of_parts shape = flat_map-flat_map (λ (ring : Ring). edges ring.points) rings_of shape.parts

pub corners_among : (shape : Shape) (v : Point) → Contains (corners shape) v → Contains (vertices shape) v
corners_among shape v h = subst (λ (points : List Point). Contains points v) (sym (vertices_of_parts shape)) (among_each part_corners part_points shape.parts v part_among h)

pub corners_few : (shape : Shape) → length (corners shape) ≤ length (vertices shape)
corners_few shape = omega (arith, fewer_each part_corners part_points shape.parts part_fewer, ap (λ (points : List Point). length points) (vertices_of_parts shape))

edges_long : (a : Point) (rest : List Point) → length (edges_from a rest) ≡ length rest
edges_long a [] = refl
edges_long a (b ∷ rest) = ap suc (edges_long b rest)

-- one fewer than positions
pub edges_fewer : (points : List Point) → length (edges points) ≡ length points - 1
edges_fewer [] = refl
edges_fewer (a ∷ rest) = omega (arith, edges_long a rest)

pub ring_edges_few : (ring : Ring) → length (edges ring.points) ≤ length ring.points
ring_edges_few ring = omega (arith, edges_fewer ring.points)

pub edges_few : (shape : Shape) → length (all_edges shape) ≤ length (vertices shape)
edges_few shape = fewer_each (λ (ring : Ring). edges ring.points) (λ (ring : Ring). ring.points) (rings shape) ring_edges_few
