-- The features that others name, by their identifiers.
use Rattle.std.specs.Prelude.{◌≡◌, Contains}
use Rattle.venue_types.specs.declared.feature_id.FeatureId.{FeatureId}
use Rattle.venue_types.specs.declared.features.Features.{Features}
use Rattle.venue_types.specs.declared.features.AnchorRow.{AnchorRow}
use Rattle.venue_types.specs.declared.features.LevelRow.{LevelRow}
use Rattle.venue_types.specs.declared.features.UnitRow.{UnitRow}

-- a level of the folder, by its identifier
pub record IsLevel (features : Features) (id : FeatureId) (level : LevelRow) : Type 0 where
  pub has : Contains features.levels level
  pub named : level.id ≡ id

-- a unit of the folder, by its identifier
pub record IsUnit (features : Features) (id : FeatureId) (unit : UnitRow) : Type 0 where
  pub has : Contains features.units unit
  pub named : unit.id ≡ id

-- an anchor of the folder, by its identifier
pub record IsAnchor (features : Features) (id : FeatureId) (anchor : AnchorRow) : Type 0 where
  pub has : Contains features.anchors anchor
  pub named : anchor.id ≡ id
