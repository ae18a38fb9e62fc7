-- What is known of a room's places where its pairs can be asked.
use Rattle.std.proofs.Common.{◌≡◌, ℕ, ◌+◌, ◌<◌, ◌≤◌, ℤ, pos, ◌*ℤ◌, List, ◌∷◌, ◌++◌, All, length, map, Contains, sym, subst, length-append, arith}
use Rattle.std.proofs.lemmas.Int.{ints}
use Rattle.std.proofs.lemmas.List.{get_or-map, length-map, get_or_append_left, get_or-append-add}
use Rattle.std.proofs.lemmas.List.Elements.{Contains-get_or}
use Rattle.venue_types.specs.declared.point.Point.{Point}
use Rattle.venue_types.specs.declared.point.Shape.{Shape}
use Rattle.venue_types.specs.declared.point.Spot.{Spot}
use Rattle.plane_exact.specs.Plane.{IsWithin, IsInRange, IsNearby, IsCloseDoubled}
use Rattle.plane_exact.specs.Figure.{AllNearby, vertices}
use Rattle.plane_exact.specs.Scaled.{times, scaled}
use Rattle.plane_exact.specs.Sight.{Sight, at_spot}
use Rattle.plane_exact.specs.Seeing.{does_see}
use Rattle.plane_exact.proofs.NearbyLemmas.{edge_with_line, plain_left, plain_right}
use Rattle.plane_exact.proofs.ScaleLaw.{same_test}
use Rattle.plane_exact.proofs.SightLaw.{sight_decides}
use Rattle.plane_exact.proofs.TurnSight.{sight_turned}
use Rattle.unit_sight.specs.Rooms.{spot_of, sees_in}
use Rattle.unit_sight.specs.Finding.{FitsRoom, FitsLengths}

-- a spot, taken twice
abbrev twice : Spot → Point
twice s = times 2 (at_spot s)

member : (spots : List Spot) (i : ℕ) → i < length spots → Contains (map twice spots) (twice (spot_of spots i))
member spots i low =
    let none : Spot = record { x = pos 0; y = pos 0 } in
    let size = length-map spots twice in
    subst (λ (p : Point). Contains (map twice spots) p) (get_or-map twice spots i none (twice none) low) (Contains-get_or (map twice spots) i (twice none) (omega arith))

pub both_near : (bands : Shape) (spots : List Spot) (t i j : ℕ) → FitsRoom bands spots t → i < length spots → j < length spots → AllNearby (times 2 (at_spot (spot_of spots i)) ∷ times 2 (at_spot (spot_of spots j)) ∷ vertices bands)
both_near bands spots t i j fits low high = edge_with_line (twice (spot_of spots i)) (twice (spot_of spots j)) (map twice spots) (vertices bands) (member spots i low) (member spots j high) fits.near

pub in_range : (bands : Shape) (spots : List Spot) (t i : ℕ) → FitsRoom bands spots t → i < length spots → IsInRange (at_spot (spot_of spots i))
in_range bands spots t i fits low =
    let none : Spot = record { x = pos 0; y = pos 0 } in
    let size = length-map spots at_spot in
    subst IsInRange (get_or-map at_spot spots i none (at_spot none) low) (fits.range i (at_spot none) (omega arith))

pub sees_turns : (shape : Shape) (spots : List Spot) (t i j : ℕ) → sees_in shape spots t i j ≡ sees_in shape spots t j i
sees_turns shape spots t i j =
    let a = spot_of spots i in
    let b = spot_of spots j in
    same_test (does_see a b shape t) (does_see b a shape t) (Sight a b shape t) (Sight b a shape t) (sight_decides a b shape t) (sight_decides b a shape t) (λ s. sight_turned a b shape t s, λ s. sight_turned b a shape t s)

-- ---- a room with its shape, all numbers taken four times

All-front : (P : Point → Type 0) (xs ys : List Point) → All P (xs ++ ys) → All P xs
All-front P xs ys h = λ i d low. subst P (get_or_append_left xs ys d i low) (h i d (let size = length-append xs ys in omega arith))

pub All-behind : (P : Point → Type 0) (xs ys : List Point) → All P (xs ++ ys) → All P ys
All-behind P xs ys h = λ i d low. subst P (get_or-append-add xs ys i d) (h (length xs + i) d (let size = length-append xs ys in omega arith))

pub made_near : (bands shape : Shape) (points : List Point) → bands ≡ scaled 4 shape → AllNearby (points ++ vertices (scaled 4 shape)) → AllNearby (vertices bands)
made_near bands shape points is near = subst (λ (s : Shape). AllNearby (vertices s)) (sym is) (plain_right points (vertices (scaled 4 shape)) near)

pub room_fits : (bands shape : Shape) (spots : List Spot) (t : ℕ) → bands ≡ scaled 4 shape → AllNearby (map twice spots ++ vertices (scaled 4 shape)) → All IsInRange (map at_spot spots ++ vertices shape) → length spots ≤ 4096 → t ≤ 1000000 → FitsRoom bands spots t
room_fits bands shape spots t is near range few tolerance = record {
  near = subst (λ (s : Shape). AllNearby (map twice spots ++ vertices s)) (sym is) near;
  range = All-front IsInRange (map at_spot spots) (vertices shape) range;
  few = few;
  tolerance = tolerance;
}

halves : (m n : ℤ) → IsWithin 800000000 (pos 2 *ℤ m) (pos 2 *ℤ n) → IsWithin 400000000 m n
halves m n h = record { above = omega (arith, ints); below = omega (arith, ints) }

doubled_close : (a b : Spot) → IsNearby (twice a) (twice b) → IsCloseDoubled a b
doubled_close a b h = record { x = halves a.x b.x h.x; y = halves a.y b.y h.y }

pub lengths_fit : (spots : List Spot) (points : List Point) (kx ky : ℕ) → AllNearby (map twice spots ++ points) → length spots ≤ 4096 → kx ≤ 20000000 → ky ≤ 20000000 → FitsLengths spots kx ky
lengths_fit spots points kx ky near few x y = record {
  close = λ i j low high. doubled_close (spot_of spots i) (spot_of spots j) ((plain_left (map twice spots) points near).near (twice (spot_of spots i)) (twice (spot_of spots j)) (member spots i low) (member spots j high));
  few = few;
  kx_range = x;
  ky_range = y;
}
