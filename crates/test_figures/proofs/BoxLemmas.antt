-- Positions in one box are nearby one another.
use Rattle.std.proofs.Common.{◌≡◌, List, [], ◌∷◌, ◌++◌, map, All, subst, sym, arith}
use Rattle.std.proofs.lemmas.Int.{ints}
use Rattle.std.proofs.lemmas.List.Elements.{All-nil, All-cons, All-append, All-contains, All-map, All-weaker}
use mathlib.Core.Path.{subst₂}
use Rattle.venue_types.specs.declared.point.Ring.{Ring}
use Rattle.venue_types.specs.declared.point.Part.{Part}
use Rattle.venue_types.specs.declared.point.Point.{Point}
use Rattle.venue_types.specs.declared.point.Spot.{Spot}
use Rattle.plane_exact.specs.Plane.{IsNearby, IsInRange, IsCloseDoubled}
use Rattle.plane_exact.specs.Figure.{AllNearby, vertices}
use Rattle.venue_types.specs.declared.point.Shape.{Shape}
use Rattle.plane_exact.specs.Scaled.{times, scaled}
use Rattle.plane_exact.specs.Sight.{at_spot}
use Rattle.plane_exact.proofs.ScaleLaw.{points_of_scaled}
use Rattle.test_figures.specs.Boxes.{IsInBox, IsInDoubledBox, IsInWideBox}

pub box_close : (a b : Point) → IsInBox a → IsInBox b → IsNearby a b
box_close a b h k = record {
  x = record { above = omega (arith, ints); below = omega (arith, ints) };
  y = record { above = omega (arith, ints); below = omega (arith, ints) };
}

pub doubled_close : (a b : Spot) → IsInDoubledBox a → IsInDoubledBox b → IsCloseDoubled a b
doubled_close a b h k = record {
  x = record { above = omega (arith, ints); below = omega (arith, ints) };
  y = record { above = omega (arith, ints); below = omega (arith, ints) };
}

pub all_close : (p : Point) (points : List Point) → IsInBox p → All IsInBox points → AllNearby (p ∷ points)
all_close p points h k =
    let all = All-cons IsInBox p points h k in
    record { near = λ a b inside_a inside_b. box_close a b (All-contains IsInBox (p ∷ points) a all inside_a) (All-contains IsInBox (p ∷ points) b all inside_b) }

-- of a polygon with a hole and one without
pub two_polygons : (outer hole notch : Ring) (holes none : List Ring) (parts : List Part) → parts ≡ record { outer = outer; holes = holes } ∷ record { outer = notch; holes = none } ∷ [] → holes ≡ hole ∷ [] → none ≡ [] → All IsInBox outer.points → All IsInBox hole.points → All IsInBox notch.points → All IsInBox (vertices (record { parts = parts }))
two_polygons outer hole notch holes none parts e f g h k l =
    let P : List Part → Type 0 = λ list. All IsInBox (vertices (record { parts = list })) in
    let Q : List Ring → List Ring → Type 0 = λ first second. P (record { outer = outer; holes = first } ∷ record { outer = notch; holes = second } ∷ []) in
    let whole : Q (hole ∷ []) [] = All-append IsInBox outer.points _ h (All-append IsInBox hole.points _ k (All-append IsInBox notch.points _ l (All-nil IsInBox))) in
    subst P (sym e) (subst₂ Q (sym f) (sym g) whole)

-- of the points alone
pub points_close : (points : List Point) → All IsInBox points → AllNearby points
points_close points all = record { near = λ a b inside_a inside_b. box_close a b (All-contains IsInBox points a all inside_a) (All-contains IsInBox points b all inside_b) }

-- ---- the same with all numbers taken four times

wide_near : (a b : Point) → IsInWideBox a → IsInWideBox b → IsNearby a b
wide_near a b h k = record {
  x = record { above = omega (arith, ints); below = omega (arith, ints) };
  y = record { above = omega (arith, ints); below = omega (arith, ints) };
}

pub all_wide_near : (points : List Point) → All IsInWideBox points → AllNearby points
all_wide_near points all = record { near = λ a b inside_a inside_b. wide_near a b (All-contains IsInWideBox points a all inside_a) (All-contains IsInWideBox points b all inside_b) }

four_times : (a : Point) → IsInBox a → IsInWideBox (times 4 a)
four_times a h = record {
  x = record { above = omega (arith, ints); below = omega (arith, ints) };
  y = record { above = omega (arith, ints); below = omega (arith, ints) };
}

pub spot_twice : (a : Spot) → IsInDoubledBox a → IsInWideBox (times 2 (at_spot a))
spot_twice a h = record {
  x = record { above = omega (arith, ints); below = omega (arith, ints) };
  y = record { above = omega (arith, ints); below = omega (arith, ints) };
}

pub spot_in_range : (a : Spot) → IsInDoubledBox a → IsInRange (at_spot a)
spot_in_range a h = record {
  x = record { above = omega (arith, ints); below = omega (arith, ints) };
  y = record { above = omega (arith, ints); below = omega (arith, ints) };
}

pub box_in_range : (a : Point) → IsInBox a → IsInRange a
box_in_range a h = record {
  x = record { above = omega (arith, ints); below = omega (arith, ints) };
  y = record { above = omega (arith, ints); below = omega (arith, ints) };
}

-- of the vertices of a shape
pub wide_vertices : (shape : Shape) → All IsInBox (vertices shape) → All IsInWideBox (vertices (scaled 4 shape))
wide_vertices shape h = rw (points_of_scaled 4 shape) (All-map IsInWideBox (times 4) (vertices shape) (All-weaker IsInBox (λ p. IsInWideBox (times 4 p)) four_times (vertices shape) h))

-- what `sight` asks of two spots and a shape
pub sight_near : (a b : Spot) (shape : Shape) → IsInDoubledBox a → IsInDoubledBox b → All IsInBox (vertices shape) → AllNearby (times 2 (at_spot a) ∷ times 2 (at_spot b) ∷ vertices (scaled 4 shape))
sight_near a b shape h k l = all_wide_near (times 2 (at_spot a) ∷ times 2 (at_spot b) ∷ vertices (scaled 4 shape)) (All-cons IsInWideBox (times 2 (at_spot a)) (times 2 (at_spot b) ∷ vertices (scaled 4 shape)) (spot_twice a h) (All-cons IsInWideBox (times 2 (at_spot b)) (vertices (scaled 4 shape)) (spot_twice b k) (wide_vertices shape l)))

pub sight_range : (a b : Spot) (shape : Shape) → IsInDoubledBox a → IsInDoubledBox b → All IsInBox (vertices shape) → All IsInRange (at_spot a ∷ at_spot b ∷ vertices shape)
sight_range a b shape h k l = All-cons IsInRange (at_spot a) (at_spot b ∷ vertices shape) (spot_in_range a h) (All-cons IsInRange (at_spot b) (vertices shape) (spot_in_range b k) (All-weaker IsInBox IsInRange box_in_range (vertices shape) l))

pub box_range : (points : List Point) → All IsInBox points → All IsInRange points
box_range points l = All-weaker IsInBox IsInRange box_in_range points l

-- what `Sights::of` asks of the spots and the shape of a room
pub spots_near : (spots : List Spot) (shape : Shape) → All IsInDoubledBox spots → All IsInBox (vertices shape) → AllNearby (map (λ (s : Spot). times 2 (at_spot s)) spots ++ vertices (scaled 4 shape))
spots_near spots shape h k =
    let twice : Spot → Point = λ s. times 2 (at_spot s) in
    all_wide_near (map twice spots ++ vertices (scaled 4 shape)) (All-append IsInWideBox (map twice spots) (vertices (scaled 4 shape)) (All-map IsInWideBox twice spots (All-weaker IsInDoubledBox (λ s. IsInWideBox (twice s)) spot_twice spots h)) (wide_vertices shape k))

pub spots_range : (spots : List Spot) (shape : Shape) → All IsInDoubledBox spots → All IsInBox (vertices shape) → All IsInRange (map at_spot spots ++ vertices shape)
spots_range spots shape h k = All-append IsInRange (map at_spot spots) (vertices shape) (All-map IsInRange at_spot spots (All-weaker IsInDoubledBox (λ s. IsInRange (at_spot s)) spot_in_range spots h)) (box_range (vertices shape) k)
