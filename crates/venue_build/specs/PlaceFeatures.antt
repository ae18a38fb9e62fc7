-- A place by the feature that it is: the code's own machinery, which no public contract cites.
use Rattle.std.specs.Prelude.{ℤ, List, []}
use Rattle.venue_types.specs.declared.feature_id.FeatureId.{FeatureId}
use Rattle.venue_types.specs.declared.features.Features.{Features}
use Rattle.venue_types.specs.declared.features.Label.{Label}
use Rattle.venue_types.specs.declared.kind.Class.{Class}
use Rattle.venue_types.specs.declared.kind.Class.TheVariants as class
use Rattle.venue_types.specs.declared.reply.PlaceRow.{PlaceRow}
use Rattle.venue_build.specs.declared.place_feature.PlaceFeature.{PlaceFeature}
use Rattle.venue_build.specs.declared.place_feature.PlaceFeature.TheVariants as place
use Rattle.venue_build.specs.Places.{level_ordinal, unit_ordinal, anchor_ordinal, first_ordinal}

abbrev pub feature_id : PlaceFeature → FeatureId
feature_id (place.Amenity row) = row.now.id
feature_id (place.Anchor row) = row.now.id
feature_id (place.Occupant row) = row.now.id
feature_id (place.Opening row) = row.now.id
feature_id (place.Unit row) = row.now.id

abbrev pub feature_class : PlaceFeature → Class
feature_class (place.Amenity row) = class.Amenity
feature_class (place.Anchor row) = class.Anchor
feature_class (place.Occupant row) = class.Occupant
feature_class (place.Opening row) = class.Opening
feature_class (place.Unit row) = class.Unit

-- anchors and openings have no name
abbrev pub feature_name : PlaceFeature → List Label
feature_name (place.Amenity row) = row.now.name
feature_name (place.Anchor row) = []
feature_name (place.Occupant row) = row.now.name
feature_name (place.Opening row) = []
feature_name (place.Unit row) = row.now.name

abbrev pub feature_ordinal : Features → PlaceFeature → ℤ
feature_ordinal features (place.Amenity row) = first_ordinal features row.now.units
feature_ordinal features (place.Anchor row) = unit_ordinal features row.now.unit
feature_ordinal features (place.Occupant row) = anchor_ordinal features row.now.anchor
feature_ordinal features (place.Opening row) = level_ordinal features row.now.level
feature_ordinal features (place.Unit row) = level_ordinal features row.now.level

-- the feature as a place, on a level of this ordinal
abbrev pub place_on : ℤ → PlaceFeature → PlaceRow
place_on ordinal feature = record { id = feature_id feature; class = feature_class feature; ordinal = ordinal; name = feature_name feature }

-- the place that the feature is
abbrev pub feature_place : Features → PlaceFeature → PlaceRow
feature_place features feature = place_on (feature_ordinal features feature) feature
