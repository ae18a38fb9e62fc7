-- Rows whose fields are the same are one.
use Rattle.std.proofs.Common.{◌≡◌, arith}
use Rattle.venue_types.specs.declared.features.Features.{Features}
use Rattle.venue_types.specs.declared.features.PlainRow.{PlainRow}
use Rattle.venue_types.specs.declared.features.AmenityRow.{AmenityRow}
use Rattle.venue_types.specs.declared.features.AnchorRow.{AnchorRow}
use Rattle.venue_types.specs.declared.features.BuildingRow.{BuildingRow}
use Rattle.venue_types.specs.declared.features.DetailRow.{DetailRow}
use Rattle.venue_types.specs.declared.features.FixtureRow.{FixtureRow}
use Rattle.venue_types.specs.declared.features.FootprintRow.{FootprintRow}
use Rattle.venue_types.specs.declared.features.KioskRow.{KioskRow}
use Rattle.venue_types.specs.declared.features.LevelRow.{LevelRow}
use Rattle.venue_types.specs.declared.features.OccupantRow.{OccupantRow}
use Rattle.venue_types.specs.declared.features.OpeningRow.{OpeningRow}
use Rattle.venue_types.specs.declared.features.RelationshipRow.{RelationshipRow}
use Rattle.venue_types.specs.declared.features.UnitRow.{UnitRow}
use Rattle.venue_types.specs.declared.features.VenueRow.{VenueRow}

pub same_plain : (a b : PlainRow) → a.id ≡ b.id → a ≡ b
same_plain a b id = grind arith

pub same_amenity : (a b : AmenityRow) → a.id ≡ b.id → a.address ≡ b.address → a.units ≡ b.units → a.point ≡ b.point → a.category ≡ b.category → a.name ≡ b.name → a ≡ b
same_amenity a b id address units point category name = grind arith

pub same_anchor : (a b : AnchorRow) → a.id ≡ b.id → a.address ≡ b.address → a.unit ≡ b.unit → a.point ≡ b.point → a ≡ b
same_anchor a b id address unit point = grind arith

pub same_building : (a b : BuildingRow) → a.id ≡ b.id → a.address ≡ b.address → a ≡ b
same_building a b id address = grind arith

pub same_detail : (a b : DetailRow) → a.id ≡ b.id → a.level ≡ b.level → a ≡ b
same_detail a b id level = grind arith

pub same_fixture : (a b : FixtureRow) → a.id ≡ b.id → a.level ≡ b.level → a.anchor ≡ b.anchor → a.shape ≡ b.shape → a ≡ b
same_fixture a b id level anchor shape = grind arith

pub same_footprint : (a b : FootprintRow) → a.id ≡ b.id → a.buildings ≡ b.buildings → a.shape ≡ b.shape → a ≡ b
same_footprint a b id buildings shape = grind arith

pub same_kiosk : (a b : KioskRow) → a.id ≡ b.id → a.level ≡ b.level → a.anchor ≡ b.anchor → a ≡ b
same_kiosk a b id level anchor = grind arith

pub same_level : (a b : LevelRow) → a.id ≡ b.id → a.address ≡ b.address → a.buildings ≡ b.buildings → a.ordinal ≡ b.ordinal → a.shape ≡ b.shape → a ≡ b
same_level a b id address buildings ordinal shape = grind arith

pub same_occupant : (a b : OccupantRow) → a.id ≡ b.id → a.anchor ≡ b.anchor → a.name ≡ b.name → a ≡ b
same_occupant a b id anchor name = grind arith

pub same_opening : (a b : OpeningRow) → a.id ≡ b.id → a.level ≡ b.level → a.line ≡ b.line → a.revolving ≡ b.revolving → a.turnstile ≡ b.turnstile → a.marked ≡ b.marked
    → a.out ≡ b.out → a ≡ b
same_opening a b id level line revolving turnstile marked out = grind arith

pub same_relationship : (a b : RelationshipRow) → a.id ≡ b.id → a.kind ≡ b.kind → a.directed ≡ b.directed → a.origin ≡ b.origin → a.between ≡ b.between
    → a.destination ≡ b.destination → a ≡ b
same_relationship a b id kind directed origin between destination = grind arith

pub same_unit : (a b : UnitRow) → a.id ≡ b.id → a.level ≡ b.level → a.shape ≡ b.shape → a.display ≡ b.display → a.category ≡ b.category → a.restricted ≡ b.restricted
    → a.name ≡ b.name → a ≡ b
same_unit a b id level shape display category restricted name = grind arith

pub same_venue : (a b : VenueRow) → a.id ≡ b.id → a.address ≡ b.address → a.shape ≡ b.shape → a ≡ b
same_venue a b id address shape = grind arith

pub same_features : (a b : Features) → a.addresses ≡ b.addresses → a.amenities ≡ b.amenities → a.anchors ≡ b.anchors → a.buildings ≡ b.buildings → a.details ≡ b.details
    → a.fixtures ≡ b.fixtures → a.footprints ≡ b.footprints → a.geofences ≡ b.geofences → a.kiosks ≡ b.kiosks → a.levels ≡ b.levels → a.occupants ≡ b.occupants
    → a.openings ≡ b.openings → a.relationships ≡ b.relationships → a.sections ≡ b.sections → a.units ≡ b.units → a.venues ≡ b.venues → a ≡ b
same_features a b addresses amenities anchors buildings details fixtures footprints geofences kiosks levels occupants openings relationships sections units venues = grind arith
