-- A value that stands for a line or a shape breaks none of the rules on positions and forms.
use Rattle.std.proofs.Common.{◌≡◌, ◌∙◌, ℕ, ◌-◌, ◌≤◌, max, List, [], ◌∷◌, length, Option, Some, None, unwrap_or, cond, IsSome, IsTrue, refl, sym, ap, subst, arith, codes}
use Rattle.std.specs.Prelude.{All, slice_get}
use Rattle.std.specs.List.{AllZip}
use Rattle.std.proofs.lemmas.List.Elements.{All-head, All-tail}
use Rattle.std.proofs.lemmas.Slice.Zip.{AllZip-long}
use Rattle.exact_json.specs.Json.{Json, list_values}
use Rattle.venue_types.specs.declared.point.Point.{Point}
use Rattle.venue_types.specs.declared.point.Line.{Line}
use Rattle.venue_types.specs.declared.point.Ring.{Ring}
use Rattle.venue_types.specs.declared.point.Part.{Part}
use Rattle.venue_types.specs.declared.point.Shape.{Shape}
use Rattle.geo_shapes.specs.Laws.{HasOnePoint}
use Rattle.geo_shapes.specs.Values.{listed, IsList}
use Rattle.geo_shapes.specs.Position.{IsPosition, IsNoPosition, BreaksPositions}
use Rattle.geo_shapes.specs.Figure.{IsRing, IsPolygon, BreaksLine, BreaksRing, BreaksPolygon}
use Rattle.geo_shapes.specs.Geometry.{coordinates, is_multi, point_places, line_places, polygon_places, ring_places, shape_places, longest_of, HasPoint, HasLine, HasShape, BreaksLineForm, BreaksShapeForm}
use Rattle.plane_exact.specs.Figure.{rings_of, rings, vertices}
use Rattle.imdf_read.specs.Sound.{IsSoundRing}
use Rattle.imdf_write.specs.Values.{geometry_value}
use Rattle.writing_law.proofs.Zipped.{zip_flat, none_of, twin_at}

-- what is no list has no items
unlisted : (v : Json) → ¬ IsList v → listed v ≡ []
unlisted v none = go (list_values v) none
  where
    go : (o : Option (List Json)) → ¬ IsSome o → unwrap_or o [] ≡ []
    go None h = refl
    go (Some vs) h = absurd (h refl)

one_position : HasOnePoint → (v : Json) (p q : Point) → IsPosition v p → IsPosition v q → p ≡ q
one_position one v p q h k = one (geometry_value (codes "Point") v) p q h k

pub no_bad_positions : (vs : List Json) (ps : List Point) → AllZip IsPosition vs ps → ¬ BreaksPositions vs
no_bad_positions vs ps zip = none_of IsNoPosition IsPosition (λ v p is none. none p is) vs ps zip

pub no_bad_point : (v : Json) (p : Point) → HasPoint v p → ¬ BreaksPositions (point_places v)
no_bad_point v p has = no_bad_positions (point_places v) (p ∷ []) (has, tt)

pub no_bad_line_positions : (v : Json) (l : Line) → HasLine v l → ¬ BreaksPositions (line_places v)
no_bad_line_positions v l has = no_bad_positions (line_places v) l.points has.points

pub no_bad_line : (v : Json) (l : Line) → HasLine v l → ¬ BreaksLineForm v
no_bad_line v l has broken =
    let long : length l.points ≡ length (listed (coordinates v)) = AllZip-long IsPosition (listed (coordinates v)) l.points has.points in
    let two = has.two in
    elim broken [
      | BreaksLine.no_list none ↦ let empty : length (listed (coordinates v)) ≡ 0 = ap length (unlisted (coordinates v) none) in omega arith
      | BreaksLine.too_few few ↦ omega arith
    ]

-- the first and the last of a closed ring are one position
closed_ring : HasOnePoint → (v : Json) (r : Ring) → IsRing v r → ¬ BreaksRing v
closed_ring one v r is broken =
    let long : length r.points ≡ length (listed v) = AllZip-long IsPosition (listed v) r.points is.points in
    let four = is.four in
    elim broken [
      | BreaksRing.no_list none ↦ let empty : length (listed v) ≡ 0 = ap length (unlisted v none) in omega arith
      | BreaksRing.too_few few ↦ omega arith
      | BreaksRing.not_closed opened ↦
          let first = twin_at IsPosition (listed v) r.points 0 opened.first is.points opened.first_item in
          let last = twin_at IsPosition (listed v) r.points (length (listed v) - 1) opened.last is.points opened.last_item in
          let there : slice_get r.points (length r.points - 1) ≡ Some last.0 = subst (λ (n : ℕ). slice_get r.points (n - 1) ≡ Some last.0) (sym long) last.1 in
          let same : Some first.0 ≡ Some last.0 = sym first.1 ∙ is.closed ∙ there in
          let both : first.0 ≡ last.0 = cc in
          opened.apart (one_position one opened.first opened.start first.0 opened.starts first.2 ∙ both ∙ sym (one_position one opened.last opened.end last.0 opened.ends last.2))
    ]

closed_polygon : HasOnePoint → (v : Json) (part : Part) → IsPolygon v part → ¬ BreaksPolygon v
closed_polygon one v part is broken =
    let long : length (part.outer ∷ part.holes) ≡ length (listed v) = AllZip-long IsRing (listed v) (part.outer ∷ part.holes) is.rings in
    elim broken [
      | BreaksPolygon.no_list none ↦ let empty : length (listed v) ≡ 0 = ap length (unlisted v none) in omega arith
      | BreaksPolygon.no_ring none ↦ let empty : length (listed v) ≡ 0 = ap length none in omega arith
      | BreaksPolygon.bad_ring bad ↦ none_of BreaksRing IsRing (closed_ring one) (listed v) (part.outer ∷ part.holes) is.rings bad
    ]

no_polygons : (v : Json) → IsTrue (is_multi v) → ¬ IsList (coordinates v) → polygon_places v ≡ []
no_polygons v multi none = ap (λ b. cond b (listed (coordinates v)) (coordinates v ∷ [])) multi ∙ unlisted (coordinates v) none

pub no_bad_shape : HasOnePoint → (v : Json) (s : Shape) → HasShape v s → ¬ BreaksShapeForm v
no_bad_shape one v s has broken =
    let long : length s.parts ≡ length (polygon_places v) = AllZip-long IsPolygon (polygon_places v) s.parts has.parts in
    let some = has.one in
    elim broken [
      | BreaksShapeForm.no_list multi none ↦ let empty : length (polygon_places v) ≡ 0 = ap length (no_polygons v multi none) in omega arith
      | BreaksShapeForm.no_polygon none ↦ let empty : length (polygon_places v) ≡ 0 = ap length none in omega arith
      | BreaksShapeForm.bad_polygon bad ↦ none_of BreaksPolygon IsPolygon (closed_polygon one) (polygon_places v) s.parts has.parts bad
    ]

shape_rings : (v : Json) (s : Shape) → HasShape v s → AllZip IsRing (ring_places v) (rings s)
shape_rings v s has = zip_flat IsPolygon IsRing listed rings_of (λ w part is. is.rings) (polygon_places v) s.parts has.parts

-- the positions of a shape, one by one
pub shape_positions : (v : Json) (s : Shape) → HasShape v s → AllZip IsPosition (shape_places v) (vertices s)
shape_positions v s has = zip_flat IsRing IsPosition listed (λ (r : Ring). r.points) (λ w r is. is.points) (ring_places v) (rings s) (shape_rings v s has)

pub no_bad_shape_positions : (v : Json) (s : Shape) → HasShape v s → ¬ BreaksPositions (shape_places v)
no_bad_shape_positions v s has = no_bad_positions (shape_places v) (vertices s) (shape_positions v s has)

longest_few : (vs : List Json) (all : List Ring) → AllZip IsRing vs all → All IsSoundRing all → longest_of vs ≤ 20000
longest_few [] all zip sound = omega arith
longest_few (v ∷ vs) [] zip sound = absurd zip
longest_few (v ∷ vs) (r ∷ all) zip sound =
    let long : length r.points ≡ length (listed v) = AllZip-long IsPosition (listed v) r.points zip.0.points in
    let here : IsSoundRing r = All-head IsSoundRing r all sound in
    let few = here.few in
    let rest = longest_few vs all zip.1 (All-tail IsSoundRing r all sound) in
    let most : longest_of (v ∷ vs) ≡ max (length (listed v)) (longest_of vs) = refl in
    omega arith

-- no ring of a shape is longer than the limit
pub shape_few : (v : Json) (s : Shape) → HasShape v s → All IsSoundRing (rings s) → longest_of (ring_places v) ≤ 20000
shape_few v s has sound = longest_few (ring_places v) (rings s) (shape_rings v s has) sound
