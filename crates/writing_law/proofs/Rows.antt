-- Each row is what is read of the feature by which the fixed form writes it.
use Rattle.std.proofs.Common.{◌≡◌, Option, unwrap_or, refl, sym, ap}
use Rattle.geo_decimal.proofs.Values.{one_value}
use Rattle.venue_types.specs.declared.feature_id.FeatureId.{FeatureId}
use Rattle.venue_types.specs.declared.features.PlainRow.{PlainRow}
use Rattle.venue_types.specs.declared.features.AmenityRow.{AmenityRow}
use Rattle.venue_types.specs.declared.features.AnchorRow.{AnchorRow}
use Rattle.venue_types.specs.declared.features.BuildingRow.{BuildingRow}
use Rattle.venue_types.specs.declared.features.DetailRow.{DetailRow}
use Rattle.venue_types.specs.declared.features.FixtureRow.{FixtureRow}
use Rattle.venue_types.specs.declared.features.FootprintRow.{FootprintRow}
use Rattle.venue_types.specs.declared.features.KioskRow.{KioskRow}
use Rattle.venue_types.specs.declared.features.LevelRow.{LevelRow}
use Rattle.venue_types.specs.declared.features.OccupantRow.{OccupantRow}
use Rattle.venue_types.specs.declared.features.OpeningRow.{OpeningRow}
use Rattle.venue_types.specs.declared.features.RelationshipRow.{RelationshipRow}
use Rattle.venue_types.specs.declared.features.UnitRow.{UnitRow}
use Rattle.venue_types.specs.declared.features.VenueRow.{VenueRow}
use Rattle.venue_types.specs.declared.folder_file.File.{File}
use Rattle.imdf_rows.specs.Fields.{id_field}
use Rattle.imdf_rows.specs.Rows.{IsPlainRow, IsAmenityRow, IsAnchorRow, IsBuildingRow, IsDetailRow, IsFixtureRow, IsFootprintRow, IsKioskRow, IsLevelRow, IsOccupantRow, IsOpeningRow, IsRelationshipRow, IsUnitRow, IsVenueRow}
use Rattle.imdf_rows.proofs.Billionths.{one_ordinal}
use Rattle.imdf_write.specs.Values.{id_value, ordinal_value}
use Rattle.imdf_write.specs.Rows.{plain_feature, amenity_feature, anchor_feature, building_feature, detail_feature, fixture_feature, footprint_feature, kiosk_feature, level_feature, occupant_feature, opening_feature, relationship_feature, unit_feature, venue_feature}
use Rattle.writing_law.specs.Fit.{FitsId, FitsPlain, FitsAmenity, FitsAnchor, FitsBuilding, FitsDetail, FitsFixture, FitsFootprint, FitsKiosk, FitsLevel, FitsOccupant, FitsOpening, FitsRelationship, FitsUnit, FitsVenue}
use Rattle.writing_law.proofs.Ids.{id_back, id_or_none_back, ids_back}
use Rattle.writing_law.proofs.Labels.{name_back}
use Rattle.writing_law.proofs.Figures.{point_back, line_back, shape_back, display_back}
use Rattle.writing_law.proofs.Words.{marked_back, out_back, revolving_back, turnstile_back, passage_back, direction_back, restricted_back}
use Rattle.writing_law.proofs.Ordinals.{ordinal_back}
use Rattle.writing_law.proofs.Refs.{ref_or_none_back, refs_back}

id_there : (id : FeatureId) → FitsId id → id ≡ id_field (id_value id)
id_there id fits = let zero : FeatureId = record { 0 = 0 } in sym (ap (λ (o : Option FeatureId). unwrap_or o zero) (id_back id fits))

pub plain_back : (f : File) (row : PlainRow) → FitsPlain row → IsPlainRow (plain_feature f row) row
plain_back f row fits = record { id = id_there row.id fits.id }

pub amenity_back : (f : File) (row : AmenityRow) → FitsAmenity row → IsAmenityRow (amenity_feature f row) row
amenity_back f row fits = record {
  id = id_there row.id fits.id;
  address = sym (id_or_none_back row.address fits.address);
  units = sym (ids_back row.units fits.units);
  point = point_back row.point fits.point;
  category = refl;
  name = sym (name_back row.name fits.name.ascend);
}

pub anchor_back : (f : File) (row : AnchorRow) → FitsAnchor row → IsAnchorRow (anchor_feature f row) row
anchor_back f row fits = record {
  id = id_there row.id fits.id;
  address = sym (id_or_none_back row.address fits.address);
  unit = id_there row.unit fits.unit;
  point = point_back row.point fits.point;
}

pub building_back : (f : File) (row : BuildingRow) → FitsBuilding row → IsBuildingRow (building_feature f row) row
building_back f row fits = record { id = id_there row.id fits.id; address = sym (id_or_none_back row.address fits.address) }

pub detail_back : (f : File) (row : DetailRow) → FitsDetail row → IsDetailRow (detail_feature f row) row
detail_back f row fits = record { id = id_there row.id fits.id; level = sym (id_or_none_back row.level fits.level) }

pub fixture_back : (f : File) (row : FixtureRow) → FitsFixture row → IsFixtureRow (fixture_feature f row) row
fixture_back f row fits = record {
  id = id_there row.id fits.id;
  level = sym (id_or_none_back row.level fits.level);
  anchor = sym (id_or_none_back row.anchor fits.anchor);
  shape = shape_back row.shape fits.shape;
}

pub footprint_back : (f : File) (row : FootprintRow) → FitsFootprint row → IsFootprintRow (footprint_feature f row) row
footprint_back f row fits = record {
  id = id_there row.id fits.id;
  buildings = sym (ids_back row.buildings fits.buildings);
  shape = shape_back row.shape fits.shape;
}

pub kiosk_back : (f : File) (row : KioskRow) → FitsKiosk row → IsKioskRow (kiosk_feature f row) row
kiosk_back f row fits = record {
  id = id_there row.id fits.id;
  level = sym (id_or_none_back row.level fits.level);
  anchor = sym (id_or_none_back row.anchor fits.anchor);
}

pub level_back : (f : File) (row : LevelRow) → FitsLevel row → IsLevelRow (level_feature f row) row
level_back f row fits = record {
  id = id_there row.id fits.id;
  address = sym (id_or_none_back row.address fits.address);
  buildings = sym (ids_back row.buildings fits.buildings);
  ordinal = λ n is. one_ordinal one_value (ordinal_value row.ordinal) row.ordinal n (ordinal_back row.ordinal fits.ordinal.0 fits.ordinal.1) is;
  shape = shape_back row.shape fits.shape;
}

pub occupant_back : (f : File) (row : OccupantRow) → FitsOccupant row → IsOccupantRow (occupant_feature f row) row
occupant_back f row fits = record {
  id = id_there row.id fits.id;
  anchor = id_there row.anchor fits.anchor;
  name = sym (name_back row.name fits.name.ascend);
}

pub opening_back : (f : File) (row : OpeningRow) → FitsOpening row → IsOpeningRow (opening_feature f row) row
opening_back f row fits = record {
  id = id_there row.id fits.id;
  level = id_there row.level fits.level;
  line = line_back row.line fits.line;
  revolving = sym (revolving_back row.revolving row.turnstile);
  turnstile = sym (turnstile_back row.revolving row.turnstile fits.door);
  marked = sym (marked_back row.marked);
  out = sym (out_back row.out);
}

pub relationship_back : (f : File) (row : RelationshipRow) → FitsRelationship row → IsRelationshipRow (relationship_feature f row) row
relationship_back f row fits = record {
  id = id_there row.id fits.id;
  kind = sym (passage_back row.kind fits.passage);
  directed = sym (direction_back row.directed);
  origin = sym (ref_or_none_back row.origin fits.origin);
  between = sym (refs_back row.between fits.between);
  destination = sym (ref_or_none_back row.destination fits.destination);
}

pub unit_back : (f : File) (row : UnitRow) → FitsUnit row → IsUnitRow (unit_feature f row) row
unit_back f row fits = record {
  id = id_there row.id fits.id;
  level = id_there row.level fits.level;
  shape = shape_back row.shape fits.shape;
  display = display_back row.display fits.display;
  category = refl;
  restricted = sym (restricted_back row.restricted);
  name = sym (name_back row.name fits.name.ascend);
}

pub venue_back : (f : File) (row : VenueRow) → FitsVenue row → IsVenueRow (venue_feature f row) row
venue_back f row fits = record {
  id = id_there row.id fits.id;
  address = sym (id_or_none_back row.address fits.address);
  shape = shape_back row.shape fits.shape;
}
