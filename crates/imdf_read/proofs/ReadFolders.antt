-- The rows of a folder in which the first phase finds nothing are sound.
use Rattle.std.proofs.Common.{◌≡◌, ◌≢◌, ◌∙◌, ◌≤◌, length, Option, None, refl, arith}
use Rattle.std.specs.Prelude.{All}
use Rattle.std.proofs.lemmas.List.{length-map}
use Rattle.std.proofs.lemmas.List.Elements.{All-nil, All-append, All-map}
use Rattle.std.proofs.lemmas.Slice.Zip.{AllZip-long}
use Rattle.venue_types.proofs.Zips.{zip_all}
use Rattle.exact_json.specs.Json.{Json}
use Rattle.venue_types.specs.declared.files.Files.{Files}
use Rattle.venue_types.specs.declared.features.Features.{Features}
use Rattle.venue_types.specs.declared.features.AmenityRow.{AmenityRow}
use Rattle.venue_types.specs.declared.features.AnchorRow.{AnchorRow}
use Rattle.geo_shapes.specs.Geometry.{coordinates}
use Rattle.venue_types.specs.declared.folder_file.File.{File}
use Rattle.venue_types.specs.declared.folder_file.File.TheVariants as file
use Rattle.venue_types.specs.FolderFiles.{feature_files}
use Rattle.imdf_schema.specs.Items.{geometry}
use Rattle.imdf_schema.specs.Contents.{content_items}
use Rattle.imdf_rows.specs.Rows.{IsPlainRow, IsAmenityRow, IsAnchorRow, IsBuildingRow, IsDetailRow, IsFixtureRow, IsFootprintRow, IsKioskRow, IsLevelRow, IsOccupantRow, IsOpeningRow, IsRelationshipRow, IsUnitRow, IsVenueRow}
use Rattle.imdf_rows.specs.Folder.{AreFeatures}
use Rattle.feature_rows.specs.Figures.{shapes_of, positions_of, positions, judged_positions}
use Rattle.feature_rows.specs.Sound.{IsOnEarth, IsSoundShape, AreSound, element_count}
use Rattle.imdf_read.proofs.Lists.{zip_flat_all, all_flat}
use Rattle.imdf_read.proofs.Nothing.{FindsNothing, one_venue}
use Rattle.imdf_read.proofs.ReadFigures.{position_on_earth, line_on_earth, line_count, displays_on_earth}
use Rattle.imdf_read.proofs.Elements.{few_elements}
use Rattle.imdf_read.proofs.Shapes.{all_kept, points_counted, several_counted, shapes_counted, shapes_on_earth, sound_shapes}
use Rattle.imdf_read.proofs.Counts.{IsCounted, counted, few_features, few_positions}

module _ (files : Files) (features : Features) (none : FindsNothing files) (rows : AreFeatures files features) where
  -- the content of each feature file
  content : File → Option Json
  content file.Manifest = None
  content file.Address = rows.addresses.content
  content file.Amenity = rows.amenities.content
  content file.Anchor = rows.anchors.content
  content file.Building = rows.buildings.content
  content file.Detail = rows.details.content
  content file.Fixture = rows.fixtures.content
  content file.Footprint = rows.footprints.content
  content file.Geofence = rows.geofences.content
  content file.Kiosk = rows.kiosks.content
  content file.Level = rows.levels.content
  content file.Occupant = rows.occupants.content
  content file.Opening = rows.openings.content
  content file.Relationship = rows.relationships.content
  content file.Section = rows.sections.content
  content file.Unit = rows.units.content
  content file.Venue = rows.venues.content

  each_counted : (f : File) → f ≢ file.Manifest → IsCounted files features f (content f)
  unfolding content
  each_counted file.Manifest not_manifest = absurd (not_manifest refl)
  each_counted file.Address not_manifest = counted IsPlainRow files features file.Address features.addresses none not_manifest rows.addresses (length-map features.addresses (λ row. row.id)) (omega arith)
  each_counted file.Amenity not_manifest = counted IsAmenityRow files features file.Amenity features.amenities none not_manifest rows.amenities (length-map features.amenities (λ row. row.id))
      (points_counted IsAmenityRow (λ row. row.point) files file.Amenity features.amenities refl none not_manifest rows.amenities)
  each_counted file.Anchor not_manifest = counted IsAnchorRow files features file.Anchor features.anchors none not_manifest rows.anchors (length-map features.anchors (λ row. row.id))
      (points_counted IsAnchorRow (λ row. row.point) files file.Anchor features.anchors refl none not_manifest rows.anchors)
  each_counted file.Building not_manifest = counted IsBuildingRow files features file.Building features.buildings none not_manifest rows.buildings (length-map features.buildings (λ row. row.id)) (omega arith)
  each_counted file.Detail not_manifest = counted IsDetailRow files features file.Detail features.details none not_manifest rows.details (length-map features.details (λ row. row.id)) (omega arith)
  each_counted file.Fixture not_manifest = counted IsFixtureRow files features file.Fixture features.fixtures none not_manifest rows.fixtures (length-map features.fixtures (λ row. row.id))
      (shapes_counted IsFixtureRow (λ row. row.shape) (λ v row is. is.shape) files file.Fixture features.fixtures refl none not_manifest rows.fixtures)
  each_counted file.Footprint not_manifest = counted IsFootprintRow files features file.Footprint features.footprints none not_manifest rows.footprints (length-map features.footprints (λ row. row.id))
      (shapes_counted IsFootprintRow (λ row. row.shape) (λ v row is. is.shape) files file.Footprint features.footprints refl none not_manifest rows.footprints)
  each_counted file.Geofence not_manifest = counted IsPlainRow files features file.Geofence features.geofences none not_manifest rows.geofences (length-map features.geofences (λ row. row.id)) (omega arith)
  each_counted file.Kiosk not_manifest = counted IsKioskRow files features file.Kiosk features.kiosks none not_manifest rows.kiosks (length-map features.kiosks (λ row. row.id)) (omega arith)
  each_counted file.Level not_manifest = counted IsLevelRow files features file.Level features.levels none not_manifest rows.levels (length-map features.levels (λ row. row.id))
      (shapes_counted IsLevelRow (λ row. row.shape) (λ v row is. is.shape) files file.Level features.levels refl none not_manifest rows.levels)
  each_counted file.Occupant not_manifest = counted IsOccupantRow files features file.Occupant features.occupants none not_manifest rows.occupants (length-map features.occupants (λ row. row.id)) (omega arith)
  each_counted file.Opening not_manifest = counted IsOpeningRow files features file.Opening features.openings none not_manifest rows.openings (length-map features.openings (λ row. row.id))
      (several_counted IsOpeningRow (λ row. row.line.points) files file.Opening features.openings (λ v row is. line_count (geometry v) row.line is.line) none not_manifest rows.openings)
  each_counted file.Relationship not_manifest = counted IsRelationshipRow files features file.Relationship features.relationships none not_manifest rows.relationships (length-map features.relationships (λ row. row.id)) (omega arith)
  each_counted file.Section not_manifest = counted IsPlainRow files features file.Section features.sections none not_manifest rows.sections (length-map features.sections (λ row. row.id)) (omega arith)
  each_counted file.Unit not_manifest = counted IsUnitRow files features file.Unit features.units none not_manifest rows.units (length-map features.units (λ row. row.id))
      (shapes_counted IsUnitRow (λ row. row.shape) (λ v row is. is.shape) files file.Unit features.units refl none not_manifest rows.units)
  each_counted file.Venue not_manifest = counted IsVenueRow files features file.Venue features.venues none not_manifest rows.venues (length-map features.venues (λ row. row.id))
      (shapes_counted IsVenueRow (λ row. row.shape) (λ v row is. is.shape) files file.Venue features.venues refl none not_manifest rows.venues)

  all_on_earth : (f : File) → All IsOnEarth (positions_of f features)
  all_on_earth file.Manifest = All-nil IsOnEarth
  all_on_earth file.Address = All-nil IsOnEarth
  all_on_earth file.Amenity = All-map IsOnEarth (λ (row : AmenityRow). row.point) features.amenities
      (zip_all IsAmenityRow (λ row. IsOnEarth row.point) (λ v row is. position_on_earth (coordinates (geometry v)) row.point is.point) (content_items rows.amenities.content) features.amenities rows.amenities.each)
  all_on_earth file.Anchor = All-map IsOnEarth (λ (row : AnchorRow). row.point) features.anchors
      (zip_all IsAnchorRow (λ row. IsOnEarth row.point) (λ v row is. position_on_earth (coordinates (geometry v)) row.point is.point) (content_items rows.anchors.content) features.anchors rows.anchors.each)
  all_on_earth file.Building = All-nil IsOnEarth
  all_on_earth file.Detail = All-nil IsOnEarth
  all_on_earth file.Fixture = shapes_on_earth IsFixtureRow (λ row. row.shape) (λ v row is. is.shape) files file.Fixture features.fixtures refl none (λ e. cc) rows.fixtures
  all_on_earth file.Footprint = shapes_on_earth IsFootprintRow (λ row. row.shape) (λ v row is. is.shape) files file.Footprint features.footprints refl none (λ e. cc) rows.footprints
  all_on_earth file.Geofence = All-nil IsOnEarth
  all_on_earth file.Kiosk = All-nil IsOnEarth
  all_on_earth file.Level = shapes_on_earth IsLevelRow (λ row. row.shape) (λ v row is. is.shape) files file.Level features.levels refl none (λ e. cc) rows.levels
  all_on_earth file.Occupant = All-nil IsOnEarth
  all_on_earth file.Opening = zip_flat_all IsOpeningRow IsOnEarth (λ row. row.line.points) (λ v row is. line_on_earth (geometry v) row.line is.line) (content_items rows.openings.content) features.openings rows.openings.each
  all_on_earth file.Relationship = All-nil IsOnEarth
  all_on_earth file.Section = All-nil IsOnEarth
  all_on_earth file.Unit = shapes_on_earth IsUnitRow (λ row. row.shape) (λ v row is. is.shape) files file.Unit features.units refl none (λ e. cc) rows.units
  all_on_earth file.Venue = shapes_on_earth IsVenueRow (λ row. row.shape) (λ v row is. is.shape) files file.Venue features.venues refl none (λ e. cc) rows.venues

  judged_on_earth : All IsOnEarth (judged_positions features)
  judged_on_earth = All-append IsOnEarth (positions features) _ (all_flat IsOnEarth (λ f. positions_of f features) all_on_earth feature_files)
      (displays_on_earth (content_items rows.units.content) features.units rows.units.each)

  all_shapes : (f : File) → All IsSoundShape (shapes_of f features)
  all_shapes file.Manifest = All-nil IsSoundShape
  all_shapes file.Address = All-nil IsSoundShape
  all_shapes file.Amenity = All-nil IsSoundShape
  all_shapes file.Anchor = All-nil IsSoundShape
  all_shapes file.Building = All-nil IsSoundShape
  all_shapes file.Detail = All-nil IsSoundShape
  all_shapes file.Fixture = sound_shapes IsFixtureRow (λ row. row.shape) (λ v row is. is.shape) files file.Fixture features.fixtures refl none (λ e. cc) rows.fixtures
  all_shapes file.Footprint = sound_shapes IsFootprintRow (λ row. row.shape) (λ v row is. is.shape) files file.Footprint features.footprints refl none (λ e. cc) rows.footprints
  all_shapes file.Geofence = All-nil IsSoundShape
  all_shapes file.Kiosk = All-nil IsSoundShape
  all_shapes file.Level = sound_shapes IsLevelRow (λ row. row.shape) (λ v row is. is.shape) files file.Level features.levels refl none (λ e. cc) rows.levels
  all_shapes file.Occupant = All-nil IsSoundShape
  all_shapes file.Opening = All-nil IsSoundShape
  all_shapes file.Relationship = All-nil IsSoundShape
  all_shapes file.Section = All-nil IsSoundShape
  all_shapes file.Unit = sound_shapes IsUnitRow (λ row. row.shape) (λ v row is. is.shape) files file.Unit features.units refl none (λ e. cc) rows.units
  all_shapes file.Venue = sound_shapes IsVenueRow (λ row. row.shape) (λ v row is. is.shape) files file.Venue features.venues refl none (λ e. cc) rows.venues

  pub sound : length files.slots ≡ 17 → AreSound features
  sound seventeen = record {
    one_venue = AllZip-long IsVenueRow (content_items rows.venues.content) features.venues rows.venues.each ∙ one_venue files rows.venues.content none rows.venues.held;
    few_features = few_features files features none seventeen content each_counted;
    few_positions = few_positions files features none seventeen content each_counted;
    few_elements = all_kept IsRelationshipRow (λ row. element_count row ≤ 65) files file.Relationship features.relationships (λ v row kept. few_elements v row kept.0 kept.1) none (λ e. cc) rows.relationships;
    on_earth = judged_on_earth;
    lines = zip_all IsOpeningRow (λ row. 2 ≤ length row.line.points) (λ v row is. is.line.two) (content_items rows.openings.content) features.openings rows.openings.each;
    shapes = all_shapes;
  }
