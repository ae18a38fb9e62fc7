-- What was read of a geometry. This is the code's own way and no promise.
use Rattle.std.specs.Prelude.{◌≡◌, ◌^◌, ◌-◌, true, false, IsTrue, ◌↔◌, min, length}
use Rattle.exact_json.specs.Json.{Json}
use Rattle.geo_shapes.specs.Position.{BreaksPositions}
use Rattle.venue_types.specs.declared.folder_file.File.{File}
use Rattle.venue_types.specs.declared.folder_file.Geometry.{Geometry}
use Rattle.venue_types.specs.declared.folder_file.Geometry.TheVariants as kind
use Rattle.venue_types.specs.FolderFiles.{geometry_of}
use Rattle.imdf_schema.specs.Items.{geometry}
use Rattle.imdf_rows.specs.declared.figure.Figure.{Figure}
use Rattle.imdf_rows.specs.Figures.{HasPointFigure, HasLineFigure, HasShapeFigure}
use Rattle.imdf_read.specs.declared.figures.Judged.{Judged}
use Rattle.imdf_read.specs.Counts.{places_of, is_judged, longest_ring}
use Rattle.imdf_read.specs.Broken.{BreaksForm}

-- the figure that a geometry of this kind stands for, where one is asked for
abbrev pub StandsFor : Geometry → Json → Figure → Type 0
StandsFor kind.Null v f = Unit {0}
StandsFor kind.Point v f = HasPointFigure v f
StandsFor kind.Line v f = HasLineFigure v f
StandsFor kind.Shape v f = HasShapeFigure v f
StandsFor kind.Unjudged v f = Unit {0}

-- what is read of a geometry of this kind
pub record IsRead (g : Geometry) (v : Json) (j : Judged) : Type 0 where
  pub figure : j.bad_position ≡ false → j.bad_form ≡ false → StandsFor g v j.figure
  pub bad_position : IsTrue j.bad_position ↔ BreaksPositions (places_of g v)
  pub bad_form : IsTrue j.bad_form ↔ BreaksForm g v
  pub positions : j.positions ≡ min (length (places_of g v)) (2 ^ 64 - 1)
  pub longest : j.longest ≡ longest_ring g v

-- nothing is read
pub record IsPassed (j : Judged) : Type 0 where
  pub bad_position : j.bad_position ≡ false
  pub bad_form : j.bad_form ≡ false
  pub positions : j.positions ≡ 0
  pub longest : j.longest ≡ 0

-- what is read of an item's geometry, if it is judged
pub record IsJudged (f : File) (item : Json) (j : Judged) : Type 0 where
  pub read : is_judged f item ≡ true → IsRead (geometry_of f) (geometry item) j
  pub passed : is_judged f item ≡ false → IsPassed j
