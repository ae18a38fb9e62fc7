-- The code's own way, and no promise, but for `Reads`: what is read of a value, and of several in turn.
use Rattle.std.specs.Prelude.{◌≡◌, ◌≢◌, ◌↔◌, ℕ, ℤ, ◌+◌, ◌-◌, ◌^◌, ◌<◌, ◌≤◌, min, max, List, [], ◌∷◌, ◌++◌, length, Any, Bool, true, false, ◌||◌, IsTrue, IsSome, IfSome, IsSomeAnd, MatchOption, Option, Some, None, Vec, ◌⊎◌}
use Rattle.std.specs.Option.{option_to_list}
use Rattle.std.specs.List.{flat_map, AllZip}
use Rattle.exact_json.specs.Json.{Json}
use Rattle.venue_types.specs.declared.point.Point.{Point}
use Rattle.venue_types.specs.declared.point.Line.{Line}
use Rattle.venue_types.specs.declared.point.Ring.{Ring}
use Rattle.venue_types.specs.declared.point.Part.{Part}
use Rattle.venue_types.specs.declared.point.Shape.{Shape}
use Rattle.geo_shapes.specs.declared.read_geometry.ReadGeometry.{ReadGeometry}
use Rattle.geo_shapes.specs.declared.gathered.Gathered.{Gathered}
use Rattle.geo_shapes.specs.Values.{listed}
use Rattle.geo_shapes.specs.Position.{IsAngle, IsPosition, IsNoPosition, BreaksPositions}
use Rattle.geo_shapes.specs.Figure.{IsLine, IsOpen, IsRing, IsPolygon, BreaksLine, BreaksRing, BreaksPolygon}
use Rattle.geo_shapes.specs.Geometry.{longest_of}

-- the number of nanodegrees that a value is, or none
abbrev pub ReadsAngle : ℕ → Json → Option ℤ → Type 0
ReadsAngle limit value found = MatchOption found ((n : ℤ) → ¬ IsAngle limit value n) (IsAngle limit value)

-- the position that a value is, or none
abbrev pub ReadsPosition : Json → Option Point → Type 0
ReadsPosition value found = MatchOption found (IsNoPosition value) (IsPosition value)

-- the same of a value that may not be there
abbrev pub ReadsMaybe : Option Json → Option Point → Type 0
ReadsMaybe value found = MatchOption value (found ≡ None) (λ v. ReadsPosition v found)

-- two positions that differ
abbrev pub AreApart : Option Point → Option Point → Type 0
AreApart (Some p) (Some q) = p ≢ q
AreApart (Some p) None = ⊥
AreApart None q = ⊥

-- the positions that the values are, or that one is none
abbrev pub ReadsPositions : {Z : Type 0} → List Json → Option (Vec Point Z) → Type 0
ReadsPositions values found = MatchOption found (BreaksPositions values) (λ points. AllZip IsPosition values points.items)

abbrev pub IsBadRing : List Json → Type 0
IsBadRing values = (length values < 4) ⊎ IsOpen values

abbrev pub IsBadList : Bool → List Json → Type 0
IsBadList bad values = IsTrue bad ⊎ (values ≡ [])

-- what is made of points: nothing where one isn't known or the form is broken
abbrev pub Draws : {Z : Type 0} → Option (Vec Point Z) → Bool → Option Line → Type 0
Draws None bad_form made = made ≡ None
Draws (Some points) true made = made ≡ None
Draws (Some points) false made = made ≡ Some (record { points = points.items })

abbrev pub Closes : {Z : Type 0} → Option (Vec Point Z) → Bool → Option Ring → Type 0
Closes None bad_form made = made ≡ None
Closes (Some points) true made = made ≡ None
Closes (Some points) false made = made ≡ Some (record { points = points.items })

-- nothing where it is bad, else what is made of the list
abbrev pub Encloses : List Ring → Bool → Option Part → Type 0
Encloses rings true made = made ≡ None
Encloses rings false made = IsSomeAnd made (λ part. part.outer ∷ part.holes ≡ rings)

abbrev pub Holds : List Part → Bool → Option Shape → Type 0
Holds parts true made = made ≡ None
Holds parts false made = made ≡ Some (record { parts = parts })

-- a figure, the form that it has to have, and what stands in the place of a position and of a ring
pub record Reads {T : Type 0} (Is : T → Type 0) (Breaks : Type 0) (places rings : List Json) (read : ReadGeometry T) : Type 0 where
  pub value : IfSome read.value Is
  pub there : IsSome read.value ↔ ((read.bad_position ≡ false) × (read.bad_form ≡ false))
  pub bad_position : IsTrue read.bad_position ↔ BreaksPositions places
  pub bad_form : IsTrue read.bad_form ↔ Breaks
  pub positions : read.positions ≡ min (length places) (2 ^ 64 - 1)
  pub longest : read.longest ≡ longest_of rings

-- the same of several values
pub record Gathers {T : Type 0} (Is : Json → T → Type 0) (Breaks : Json → Type 0) (places rings : Json → List Json) (values : List Json) (gathered : Gathered T) : Type 0 where
  pub figures : gathered.bad_position ≡ false → gathered.bad_form ≡ false → AllZip Is values gathered.figures.items
  pub bad_position : IsTrue gathered.bad_position ↔ BreaksPositions (flat_map places values)
  pub bad_form : IsTrue gathered.bad_form ↔ Any Breaks values
  pub positions : gathered.positions ≡ min (length (flat_map places values)) (2 ^ 64 - 1)
  pub longest : gathered.longest ≡ longest_of (flat_map rings values)

-- nothing is taken in yet
pub record IsFresh {T : Type 0} (gathered : Gathered T) : Type 0 where
  pub figures : gathered.figures.items ≡ []
  pub bad_position : gathered.bad_position ≡ false
  pub bad_form : gathered.bad_form ≡ false
  pub positions : gathered.positions ≡ 0
  pub longest : gathered.longest ≡ 0

-- one more is taken in
pub record Adds {T : Type 0} (old : Gathered T) (read : ReadGeometry T) (new : Gathered T) : Type 0 where
  pub figures : new.figures.items ≡ old.figures.items ++ option_to_list read.value
  pub bad_position : new.bad_position ≡ (old.bad_position || read.bad_position)
  pub bad_form : new.bad_form ≡ (old.bad_form || read.bad_form)
  pub positions : new.positions ≡ min (old.positions + read.positions) (2 ^ 64 - 1)
  pub longest : new.longest ≡ max old.longest read.longest

abbrev pub ReadsLine : Json → ReadGeometry Line → Type 0
ReadsLine value read = Reads (IsLine value) (BreaksLine value) (listed value) [] read × (read.positions ≡ length (listed value))

abbrev pub ReadsRing : Json → ReadGeometry Ring → Type 0
ReadsRing value read = Reads (IsRing value) (BreaksRing value) (listed value) (value ∷ []) read

abbrev pub GathersRings : List Json → Gathered Ring → Type 0
GathersRings values gathered = Gathers IsRing BreaksRing listed (λ value. value ∷ []) values gathered

-- what stands in the place of a position in a polygon
abbrev pub polygon_positions : Json → List Json
polygon_positions value = flat_map listed (listed value)

abbrev pub ReadsPolygon : Json → ReadGeometry Part → Type 0
ReadsPolygon value read = Reads (IsPolygon value) (BreaksPolygon value) (polygon_positions value) (listed value) read

abbrev pub GathersPolygons : List Json → Gathered Part → Type 0
GathersPolygons values gathered = Gathers IsPolygon BreaksPolygon polygon_positions listed values gathered

-- the shape of these polygons
pub record IsOf (polygons : List Json) (shape : Shape) : Type 0 where
  pub parts : AllZip IsPolygon polygons shape.parts
  pub one : 1 ≤ length shape.parts

-- the shape of one part, if that is there
abbrev pub MakesShape : Option Part → Option Shape → Type 0
MakesShape None made = made ≡ None
MakesShape (Some part) made = IsSomeAnd made (λ shape. shape.parts ≡ part ∷ [])

abbrev pub BreaksOf : List Json → Type 0
BreaksOf polygons = (polygons ≡ []) ⊎ Any BreaksPolygon polygons

abbrev pub ReadsShape : List Json → ReadGeometry Shape → Type 0
ReadsShape polygons read = Reads (IsOf polygons) (BreaksOf polygons) (flat_map listed (flat_map listed polygons)) (flat_map listed polygons) read
