-- Points, lines and shapes, written and read again.
use Rattle.std.proofs.Common.{◌≡◌, ◌≤◌, ℕ, List, [], ◌∷◌, ◌++◌, length, map, Option, Some, None, refl, sym, subst, arith}
use Rattle.std.specs.Prelude.{All, IfSome, ℤ, pos, neg_ℤ, ◌≤ℤ◌}
use Rattle.std.specs.List.{AllZip, flat_map}
use Rattle.std.proofs.lemmas.Int.{ints}
use Rattle.std.proofs.lemmas.List.Elements.{All-nil, All-cons, All-head, All-tail}
use Rattle.std.proofs.lemmas.List.Concat.{flat_map-append}
use Rattle.exact_json.specs.Json.{Json, null}
use Rattle.geo_decimal.specs.Value.{IsWithin}
use Rattle.geo_decimal.specs.Text.{degrees_text}
use Rattle.geo_decimal.proofs.ReadBack.{read_back}
use Rattle.geo_shapes.specs.Values.{listed}
use Rattle.geo_shapes.specs.Position.{half_turn, quarter_turn, IsAngle, IsPosition}
use Rattle.geo_shapes.specs.Figure.{IsRing, IsPolygon}
use Rattle.geo_shapes.specs.Geometry.{HasPoint, HasLine, HasShape}
use Rattle.venue_types.specs.declared.point.Point.{Point}
use Rattle.venue_types.specs.declared.point.Line.{Line}
use Rattle.venue_types.specs.declared.point.Ring.{Ring}
use Rattle.venue_types.specs.declared.point.Part.{Part}
use Rattle.venue_types.specs.declared.point.Shape.{Shape}
use Rattle.plane_exact.specs.Figure.{rings_of, ring_points}
use Rattle.imdf_read.specs.Sound.{IsOnEarth, IsSoundRing}
use Rattle.imdf_rows.specs.Fields.{IsDisplay}
use Rattle.imdf_write.specs.Values.{list_value, or_null, angle_value, position_value, ring_value, part_value, point_value, line_value, parts_value, shape_value}
use Rattle.writing_law.specs.Fit.{FitsLine, FitsShape}
use Rattle.writing_law.proofs.Lists.{listed_back}

-- what holds of two lists put together holds of each
pub all_front : {A : Type 0} (P : A → Type 0) (xs ys : List A) → All P (xs ++ ys) → All P xs
all_front P [] ys all = All-nil P
all_front P (x ∷ xs) ys all = All-cons P x xs (All-head P x (xs ++ ys) all) (all_front P xs ys (All-tail P x (xs ++ ys) all))

pub all_rest : {A : Type 0} (P : A → Type 0) (xs ys : List A) → All P (xs ++ ys) → All P ys
all_rest P [] ys all = all
all_rest P (x ∷ xs) ys all = all_rest P xs ys (All-tail P x (xs ++ ys) all)

-- where each thing is that of its value, so are all of a list
pub zip_back : {A : Type 0} (Fit : A → Type 0) (Is : Json → A → Type 0) (value : A → Json) → ((x : A) → Fit x → Is (value x) x) → (xs : List A) → All Fit xs → AllZip Is (map value xs) xs
zip_back Fit Is value back [] fits = tt
zip_back Fit Is value back (x ∷ xs) fits = (back x (All-head Fit x xs fits), zip_back Fit Is value back xs (All-tail Fit x xs fits))

as_listed : {A : Type 0} (Is : Json → A → Type 0) (value : A → Json) (xs : List A) → AllZip Is (map value xs) xs → AllZip Is (listed (list_value value xs)) xs
as_listed Is value xs zip = subst (λ vs. AllZip Is vs xs) (sym (listed_back value xs)) zip

angle_back : (limit : ℕ) (n : ℤ) → IsWithin n → neg_ℤ (pos limit) ≤ℤ n → n ≤ℤ pos limit → IsAngle limit (angle_value n) n
angle_back limit n within low high = record { digits = degrees_text n; number = refl; nano = read_back n within; low = low; high = high }

pub quarter_within : (n : ℤ) → neg_ℤ (pos 90000000000) ≤ℤ n → n ≤ℤ pos 90000000000 → IsWithin n
quarter_within n low high = (omega (arith, ints), omega (arith, ints))

pub position_back : (p : Point) → IsOnEarth p → IsPosition (position_value p) p
position_back p earth = record {
  longitude = angle_value p.x;
  latitude = angle_value p.y;
  further = [];
  items = refl;
  x = angle_back half_turn p.x (earth.west, earth.east) earth.west earth.east;
  y = angle_back quarter_turn p.y (quarter_within p.y earth.south earth.north) earth.south earth.north;
}

pub point_back : (p : Point) → IsOnEarth p → HasPoint (point_value p) p
point_back p earth = position_back p earth

pub line_back : (line : Line) → FitsLine line → HasLine (line_value line) line
line_back line fits = record { points = as_listed IsPosition position_value line.points (zip_back IsOnEarth IsPosition position_value position_back line.points fits.points); two = fits.two }

ring_back : (ring : Ring) → All IsOnEarth ring.points → IsSoundRing ring → IsRing (ring_value ring) ring
ring_back ring earth sound = record {
  points = as_listed IsPosition position_value ring.points (zip_back IsOnEarth IsPosition position_value position_back ring.points earth);
  four = sound.four;
  closed = sound.closed;
}

rings_back : (all : List Ring) → All IsOnEarth (ring_points all) → All IsSoundRing all → AllZip IsRing (map ring_value all) all
rings_back [] earth sound = tt
rings_back (ring ∷ all) earth sound =
    (ring_back ring (all_front IsOnEarth ring.points (ring_points all) earth) (All-head IsSoundRing ring all sound), rings_back all (all_rest IsOnEarth ring.points (ring_points all) earth) (All-tail IsSoundRing ring all sound))

part_back : (part : Part) → All IsOnEarth (ring_points (rings_of part)) → All IsSoundRing (rings_of part) → IsPolygon (part_value part) part
part_back part earth sound = record { rings = as_listed IsRing ring_value (part.outer ∷ part.holes) (rings_back (part.outer ∷ part.holes) earth sound) }

-- the rings of several polygons are those of the first, and those of the others
pub points_apart : (part : Part) (parts : List Part) → ring_points (rings_of part ++ flat_map rings_of parts) ≡ ring_points (rings_of part) ++ ring_points (flat_map rings_of parts)
points_apart part parts = flat_map-append (λ (ring : Ring). ring.points) (rings_of part) (flat_map rings_of parts)

parts_back : (parts : List Part) → All IsOnEarth (ring_points (flat_map rings_of parts)) → All IsSoundRing (flat_map rings_of parts) → AllZip IsPolygon (map part_value parts) parts
parts_back [] earth sound = tt
parts_back (part ∷ parts) earth sound =
    let apart : All IsOnEarth (ring_points (rings_of part) ++ ring_points (flat_map rings_of parts)) = subst (All IsOnEarth) (points_apart part parts) earth in (
      part_back part (all_front IsOnEarth (ring_points (rings_of part)) (ring_points (flat_map rings_of parts)) apart) (all_front IsSoundRing (rings_of part) (flat_map rings_of parts) sound),
      parts_back parts (all_rest IsOnEarth (ring_points (rings_of part)) (ring_points (flat_map rings_of parts)) apart) (all_rest IsSoundRing (rings_of part) (flat_map rings_of parts) sound),
    )

-- one part is a Polygon, and several are a MultiPolygon
figure_back : (parts : List Part) → 1 ≤ length parts → AllZip IsPolygon (map part_value parts) parts → HasShape (parts_value parts) (record { parts = parts })
figure_back [] one zip = absurd (omega arith)
figure_back (part ∷ []) one zip = record { parts = zip; one = one }
figure_back (part ∷ next ∷ parts) one zip = record { parts = as_listed IsPolygon part_value (part ∷ next ∷ parts) zip; one = one }

pub shape_back : (shape : Shape) → FitsShape shape → HasShape (shape_value shape) shape
shape_back shape fits = figure_back shape.parts fits.sound.one (parts_back shape.parts fits.points fits.sound.rings)

none_shown : (point : Point) → ¬ HasPoint null point
none_shown point has = let none : [] ≡ has.longitude ∷ has.latitude ∷ has.further = has.items in cc

pub display_back : (display : Option Point) → IfSome display IsOnEarth → IsDisplay (or_null point_value display) display
display_back None earth = none_shown
display_back (Some p) earth = position_back p earth
