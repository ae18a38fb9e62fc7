-- What the code keeps of the features that hold others: where they stand by identifier, and their shapes made ready.
-- This is the code's own machinery, which no public contract cites.
use Rattle.std.specs.Prelude.{List}
use Rattle.venue_types.specs.declared.feature_id.FeatureId.{FeatureId}
use Rattle.venue_types.specs.declared.features.Features.{Features}
use Rattle.venue_types.specs.declared.point.Shape.{Shape}
use Rattle.venue_types.specs.declared.folder_file.File.TheVariants as file
use Rattle.feature_rows.specs.Rows.{ids_of}
use Rattle.feature_rows.specs.Figures.{shapes_of}
use Rattle.feature_rows.specs.Indexes.{AreOnce, IsIndex}
use Rattle.contain_rules.specs.Banding.{AreBanded}
use Rattle.contain_rules.specs.declared.holders.ShapeIndex.{ShapeIndex}
use Rattle.contain_rules.specs.declared.holders.Holders.{Holders}

-- rows with these identifiers, each of which stands once, and with these shapes
pub record IsShapeIndex (ids : List FeatureId) (shapes : List Shape) (index : ShapeIndex) : Type 0 where
  pub once : AreOnce ids
  pub places : IsIndex ids index.places
  pub bands : AreBanded shapes index.bands.items

-- the levels and the units
pub record AreHolders (features : Features) (holders : Holders) : Type 0 where
  pub levels : IsShapeIndex (ids_of file.Level features) (shapes_of file.Level features) holders.levels
  pub units : IsShapeIndex (ids_of file.Unit features) (shapes_of file.Unit features) holders.units
