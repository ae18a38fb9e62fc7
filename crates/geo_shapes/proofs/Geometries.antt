-- Geometries, from what is read of their coordinates.
use Rattle.std.proofs.Common.{◌≡◌, List, [], ◌∷◌, Bool, true, false, not, is_some, IsTrue, Option, Some, None, IfSome, IsSome, unwrap_or, if◌then◌else◌, inl, inr, ◌↔◌, Result, Ok, Err, IfOk, refl, sym, ap, ◌∙◌, subst}
use Rattle.venue_types.proofs.Zips.{zip_one}
use Rattle.exact_json.specs.Json.{Json, null, list_values}
use Rattle.geo_decimal.specs.Laws.{HasOneValue}
use Rattle.venue_types.specs.declared.point.Point.{Point}
use Rattle.venue_types.specs.declared.point.Line.{Line}
use Rattle.venue_types.specs.declared.point.Ring.{Ring}
use Rattle.venue_types.specs.declared.point.Part.{Part}
use Rattle.venue_types.specs.declared.point.Shape.{Shape}
use Rattle.geo_shapes.specs.Values.{listed}
use Rattle.geo_shapes.specs.Position.{IsPosition, IsNoPosition, BreaksPositions}
use Rattle.geo_shapes.specs.Figure.{IsLine, IsRing, IsPolygon}
use Rattle.geo_shapes.specs.Geometry.{coordinates, polygon_places, HasShape, BreaksShapeForm}
use Rattle.geo_shapes.specs.Reading.{ReadsMaybe, ReadsPosition, IsOf, BreaksOf}
use Rattle.geo_shapes.proofs.Positions.{one_position}
use Rattle.geo_shapes.proofs.Lists.{any_here, any_cons, any_none}

pub if_ok : {T E : Type 0} {P Q : T → Type 0} (r : Result T E) → IfOk r P → ((x : T) → P x → Q x) → IfOk r Q
if_ok (Ok x) p step = step x p
if_ok (Err e) p step = tt

pub if_some : {T : Type 0} (P Q : T → Type 0) (o : Option T) → IfSome o P → ((x : T) → P x → Q x) → IfSome o Q
if_some P Q None p step = tt
if_some P Q (Some x) p step = step x p

-- null is no position
null_none : IsNoPosition null
null_none point p = let e = p.items in cc

-- what is read of a member that may not be there
pub member_read : (o : Option Json) (found : Option Point) (value : Json) → unwrap_or o null ≡ value → ReadsMaybe o found → ReadsPosition value found
member_read None found value is reads =
    let P : Json → Type 0 = λ v. ReadsPosition v found in
    let Q : Option Point → Type 0 = λ f. ReadsPosition null f in
    subst P is (subst Q (sym reads) null_none)
member_read (Some v) found value is reads = let P : Json → Type 0 = λ w. ReadsPosition w found in subst P is reads

pub point_value : (value : Json) (found : Option Point) → ReadsPosition value found → IfSome found (IsPosition value)
point_value value None reads = tt
point_value value (Some p) reads = reads

pub point_there : (found : Option Point) (bad : Bool) → is_some found ≡ not bad → IsSome found ↔ ((bad ≡ false) × (false ≡ false))
point_there None true is = (λ s. absurd (cc), λ p. absurd (let e = p.0 in cc))
point_there None false is = absurd (cc)
point_there (Some p) true is = absurd (cc)
point_there (Some p) false is = (λ _. (refl, refl), λ _. refl)

pub point_flag : (value : Json) (found : Option Point) (bad : Bool) → is_some found ≡ not bad → ReadsPosition value found → IsTrue bad ↔ BreaksPositions (value ∷ [])
point_flag value None true is reads = (λ _. any_here IsNoPosition value [] reads, λ _. refl)
point_flag value None false is reads = absurd (cc)
point_flag value (Some p) true is reads = absurd (cc)
point_flag value (Some p) false is reads = (λ t. absurd (cc), λ any. elim (any_cons IsNoPosition value [] any) [ inl none ↦ absurd (none p reads) | inr any ↦ absurd (any_none IsNoPosition any) ])

pub shape_of : (geometry : Json) (shape : Shape) → IsOf (polygon_places geometry) shape → HasShape geometry shape
shape_of geometry shape is = record { parts = is.parts; one = is.one }

no_values : (o : Option (List Json)) → ¬ IsSome o → unwrap_or o [] ≡ []
no_values None none = refl
no_values (Some xs) none = absurd (none refl)

pub shape_form : (geometry : Json) (bad : Bool) → IsTrue bad ↔ BreaksOf (polygon_places geometry) → IsTrue bad ↔ BreaksShapeForm geometry
shape_form geometry bad form = (
  λ t. elim (form.0 t) [ inl none ↦ BreaksShapeForm.no_polygon none | inr any ↦ BreaksShapeForm.bad_polygon any ],
  λ breaks. elim breaks [
    | BreaksShapeForm.no_list multi none ↦ form.1 (inl (ap (λ b. if b then listed (coordinates geometry) else (coordinates geometry ∷ [])) multi ∙ no_values (list_values (coordinates geometry)) none))
    | BreaksShapeForm.no_polygon none ↦ form.1 (inl none)
    | BreaksShapeForm.bad_polygon any ↦ form.1 (inr any)
  ],
)

pub one_line : HasOneValue → (value : Json) (l m : Line) → IsLine value l → IsLine value m → l ≡ m
one_line one value l m a b =
    let make : List Point → Line = λ points. record { points = points } in
    ap make (zip_one IsPosition (one_position one) (listed value) l.points m.points a.points b.points)

one_ring : HasOneValue → (value : Json) (l m : Ring) → IsRing value l → IsRing value m → l ≡ m
one_ring one value l m a b =
    let make : List Point → Ring = λ points. record { points = points } in
    ap make (zip_one IsPosition (one_position one) (listed value) l.points m.points a.points b.points)

one_part : HasOneValue → (value : Json) (l m : Part) → IsPolygon value l → IsPolygon value m → l ≡ m
one_part one value l m a b =
    let rings = zip_one IsRing (one_ring one) (listed value) (l.outer ∷ l.holes) (m.outer ∷ m.holes) a.rings b.rings in
    let outer : l.outer ≡ m.outer = cc in
    let holes : l.holes ≡ m.holes = cc in
    let make : Ring → List Ring → Part = λ r rs. record { outer = r; holes = rs } in
    ap (λ r. make r l.holes) outer ∙ ap (λ rs. make m.outer rs) holes

pub one_shape : HasOneValue → (geometry : Json) (s t : Shape) → HasShape geometry s → HasShape geometry t → s ≡ t
one_shape one geometry s t a b =
    let make : List Part → Shape = λ parts. record { parts = parts } in
    ap make (zip_one IsPolygon (one_part one) (polygon_places geometry) s.parts t.parts a.parts b.parts)
