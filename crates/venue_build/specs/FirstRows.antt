-- Rows found by their identifiers: the code's own machinery, which no public contract cites.
use Rattle.std.specs.Prelude.{◌≡◌, List}
use Rattle.std.specs.List.{position_from}
use Rattle.venue_types.specs.declared.feature_id.FeatureId.{FeatureId}
use Rattle.venue_types.specs.declared.features.Features.{Features}
use Rattle.venue_types.specs.declared.features.AnchorRow.{AnchorRow}
use Rattle.venue_types.specs.declared.features.LevelRow.{LevelRow}
use Rattle.venue_types.specs.declared.features.UnitRow.{UnitRow}
use Rattle.imdf_read.specs.Index.{Index}
use Rattle.imdf_read.specs.Indexes.{place_of}
use Rattle.link_graph.specs.Identity.{is_same}

-- for each identifier the index has the number of the first row that has it
pub record FindsFirst {R : Type 0} (id_of : R → FeatureId) (rows : List R) (index : Index) : Type 0 where
  pub first : (id : FeatureId) → place_of index id ≡ position_from (λ row. is_same (id_of row) id) 0 rows

-- these are indexes of the levels, the units and the anchors
pub record AreIndexes (features : Features) (levels units anchors : Index) : Type 0 where
  pub levels_are : FindsFirst (λ (row : LevelRow). row.id) features.levels levels
  pub units_are : FindsFirst (λ (row : UnitRow). row.id) features.units units
  pub anchors_are : FindsFirst (λ (row : AnchorRow). row.id) features.anchors anchors
