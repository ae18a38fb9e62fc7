-- The shapes and the positions of a folder's features.
use Rattle.std.specs.Prelude.{List, [], ◌∷◌, ◌++◌, map, Some, None}
use Rattle.std.specs.List.{flat_map}
use Rattle.venue_types.specs.declared.features.Features.{Features}
use Rattle.venue_types.specs.declared.features.AmenityRow.{AmenityRow}
use Rattle.venue_types.specs.declared.features.AnchorRow.{AnchorRow}
use Rattle.venue_types.specs.declared.features.FixtureRow.{FixtureRow}
use Rattle.venue_types.specs.declared.features.FootprintRow.{FootprintRow}
use Rattle.venue_types.specs.declared.features.LevelRow.{LevelRow}
use Rattle.venue_types.specs.declared.features.OpeningRow.{OpeningRow}
use Rattle.venue_types.specs.declared.features.UnitRow.{UnitRow}
use Rattle.venue_types.specs.declared.features.VenueRow.{VenueRow}
use Rattle.venue_types.specs.declared.point.Point.{Point}
use Rattle.venue_types.specs.declared.point.Shape.{Shape}
use Rattle.venue_types.specs.declared.folder_file.File.{File}
use Rattle.venue_types.specs.declared.folder_file.File.TheVariants as file
use Rattle.venue_types.specs.FolderFiles.{feature_files}
use Rattle.plane_exact.specs.Figure.{vertices}

-- the shapes of a file's features, in file order; none where their geometry is no shape
abbrev pub shapes_of : File → Features → List Shape
shapes_of file.Fixture features = map (λ (row : FixtureRow). row.shape) features.fixtures
shapes_of file.Footprint features = map (λ (row : FootprintRow). row.shape) features.footprints
shapes_of file.Level features = map (λ (row : LevelRow). row.shape) features.levels
shapes_of file.Unit features = map (λ (row : UnitRow). row.shape) features.units
shapes_of file.Venue features = map (λ (row : VenueRow). row.shape) features.venues
shapes_of _ features = []

-- the positions of a file's judged geometries: points, the vertices of lines, the vertices of shapes
abbrev pub positions_of : File → Features → List Point
positions_of file.Amenity features = map (λ (row : AmenityRow). row.point) features.amenities
positions_of file.Anchor features = map (λ (row : AnchorRow). row.point) features.anchors
positions_of file.Opening features = flat_map (λ (row : OpeningRow). row.line.points) features.openings
positions_of f features = flat_map vertices (shapes_of f features)

-- the positions of all judged geometries
abbrev pub positions : Features → List Point
positions features = flat_map (λ f. positions_of f features) feature_files

-- the display point of a unit, if it has one
abbrev pub display_of : UnitRow → List Point
display_of row = elim row.display [ None ↦ [] | Some p ↦ p ∷ [] ]

-- the positions that the rule on the spread judges: those of judged geometries, and the display points of units
abbrev pub judged_positions : Features → List Point
judged_positions features = positions features ++ flat_map display_of features.units
