-- An item that breaks no rule has one row.
use Rattle.std.proofs.Common.{◌≡◌, ◌∙◌, Option, Some, None, Bool, true, false, IsTrue, ◌↔◌, refl, sym, ap}
use Rattle.std.specs.Ordering.{int_eq}
use Rattle.std.proofs.lemmas.Bool.Decides.{Decides-int_eq}
use Rattle.exact_json.specs.Json.{Json}
use Rattle.geo_shapes.specs.Laws.{HasOnePoint, HasOneLine, HasOneShape}
use Rattle.venue_types.specs.declared.point.Point.{Point}
use Rattle.venue_types.specs.declared.features.PlainRow.{PlainRow}
use Rattle.venue_types.specs.declared.features.AmenityRow.{AmenityRow}
use Rattle.venue_types.specs.declared.features.AnchorRow.{AnchorRow}
use Rattle.venue_types.specs.declared.features.BuildingRow.{BuildingRow}
use Rattle.venue_types.specs.declared.features.DetailRow.{DetailRow}
use Rattle.venue_types.specs.declared.features.FixtureRow.{FixtureRow}
use Rattle.venue_types.specs.declared.features.FootprintRow.{FootprintRow}
use Rattle.venue_types.specs.declared.features.KioskRow.{KioskRow}
use Rattle.venue_types.specs.declared.features.LevelRow.{LevelRow}
use Rattle.venue_types.specs.declared.features.OccupantRow.{OccupantRow}
use Rattle.venue_types.specs.declared.features.OpeningRow.{OpeningRow}
use Rattle.venue_types.specs.declared.features.RelationshipRow.{RelationshipRow}
use Rattle.venue_types.specs.declared.features.UnitRow.{UnitRow}
use Rattle.venue_types.specs.declared.features.VenueRow.{VenueRow}
use Rattle.venue_types.specs.declared.folder_file.File.TheVariants as file
use Rattle.imdf_schema.specs.declared.table.Property.TheVariants as property
use Rattle.imdf_schema.specs.Items.{geometry}
use Rattle.imdf_schema.specs.Items as item
use Rattle.imdf_rows.specs.Fields.{IsDisplay}
use Rattle.imdf_rows.specs.Rows.{IsPlainRow, IsAmenityRow, IsAnchorRow, IsBuildingRow, IsDetailRow, IsFixtureRow, IsFootprintRow, IsKioskRow, IsLevelRow, IsOccupantRow, IsOpeningRow, IsRelationshipRow, IsUnitRow, IsVenueRow}
use Rattle.imdf_schema.specs.declared.rules.Rule.TheVariants.{L1}
use Rattle.imdf_read.proofs.Nothing.{BreaksNone, is_feature_of}
use Rattle.imdf_read.proofs.SameRows.{same_plain, same_amenity, same_anchor, same_building, same_detail, same_fixture, same_footprint, same_kiosk, same_level, same_occupant, same_opening, same_relationship, same_unit, same_venue}

stable : {P : Type 0} (r : Bool) → IsTrue r ↔ P → ¬ (¬ P) → P
stable true d h = d.0 refl
stable false d h = absurd (h (λ p. let e = d.1 p in cc))

-- a level's ordinal is one, since it is there
one_ordinal : (v : Json) (a b : LevelRow) → BreaksNone file.Level v → IsLevelRow v a → IsLevelRow v b → a.ordinal ≡ b.ordinal
one_ordinal v a b keeps x y = stable (int_eq a.ordinal b.ordinal) (Decides-int_eq a.ordinal b.ordinal)
    (λ apart. keeps L1 0 (refl, is_feature_of file.Level v keeps, (λ n is. apart (x.ordinal n is ∙ sym (y.ordinal n is))), refl))

one_display : HasOnePoint → (v : Json) (a b : Option Point) → IsDisplay v a → IsDisplay v b → a ≡ b
one_display one v None None x y = refl
one_display one v None (Some q) x y = absurd (x q y)
one_display one v (Some p) None x y = absurd (y p x)
one_display one v (Some p) (Some q) x y = ap Some (one v p q x y)

pub one_plain : (v : Json) (a b : PlainRow) → IsPlainRow v a → IsPlainRow v b → a ≡ b
one_plain v a b x y = same_plain a b (x.id ∙ sym y.id)

pub one_amenity : HasOnePoint → (v : Json) (a b : AmenityRow) → IsAmenityRow v a → IsAmenityRow v b → a ≡ b
one_amenity one v a b x y = same_amenity a b (x.id ∙ sym y.id) (x.address ∙ sym y.address) (x.units ∙ sym y.units) (one (geometry v) a.point b.point x.point y.point) (x.category ∙ sym y.category) (x.name ∙ sym y.name)

pub one_anchor : HasOnePoint → (v : Json) (a b : AnchorRow) → IsAnchorRow v a → IsAnchorRow v b → a ≡ b
one_anchor one v a b x y = same_anchor a b (x.id ∙ sym y.id) (x.address ∙ sym y.address) (x.unit ∙ sym y.unit) (one (geometry v) a.point b.point x.point y.point)

pub one_building : (v : Json) (a b : BuildingRow) → IsBuildingRow v a → IsBuildingRow v b → a ≡ b
one_building v a b x y = same_building a b (x.id ∙ sym y.id) (x.address ∙ sym y.address)

pub one_detail : (v : Json) (a b : DetailRow) → IsDetailRow v a → IsDetailRow v b → a ≡ b
one_detail v a b x y = same_detail a b (x.id ∙ sym y.id) (x.level ∙ sym y.level)

pub one_fixture : HasOneShape → (v : Json) (a b : FixtureRow) → IsFixtureRow v a → IsFixtureRow v b → a ≡ b
one_fixture one v a b x y = same_fixture a b (x.id ∙ sym y.id) (x.level ∙ sym y.level) (x.anchor ∙ sym y.anchor) (one (geometry v) a.shape b.shape x.shape y.shape)

pub one_footprint : HasOneShape → (v : Json) (a b : FootprintRow) → IsFootprintRow v a → IsFootprintRow v b → a ≡ b
one_footprint one v a b x y = same_footprint a b (x.id ∙ sym y.id) (x.buildings ∙ sym y.buildings) (one (geometry v) a.shape b.shape x.shape y.shape)

pub one_kiosk : (v : Json) (a b : KioskRow) → IsKioskRow v a → IsKioskRow v b → a ≡ b
one_kiosk v a b x y = same_kiosk a b (x.id ∙ sym y.id) (x.level ∙ sym y.level) (x.anchor ∙ sym y.anchor)

pub one_level : HasOneShape → (v : Json) (a b : LevelRow) → BreaksNone file.Level v → IsLevelRow v a → IsLevelRow v b → a ≡ b
one_level one v a b keeps x y = same_level a b (x.id ∙ sym y.id) (x.address ∙ sym y.address) (x.buildings ∙ sym y.buildings) (one_ordinal v a b keeps x y) (one (geometry v) a.shape b.shape x.shape y.shape)

pub one_occupant : (v : Json) (a b : OccupantRow) → IsOccupantRow v a → IsOccupantRow v b → a ≡ b
one_occupant v a b x y = same_occupant a b (x.id ∙ sym y.id) (x.anchor ∙ sym y.anchor) (x.name ∙ sym y.name)

pub one_opening : HasOneLine → (v : Json) (a b : OpeningRow) → IsOpeningRow v a → IsOpeningRow v b → a ≡ b
one_opening one v a b x y = same_opening a b (x.id ∙ sym y.id) (x.level ∙ sym y.level) (one (geometry v) a.line b.line x.line y.line) (x.revolving ∙ sym y.revolving) (x.turnstile ∙ sym y.turnstile) (x.marked ∙ sym y.marked) (x.out ∙ sym y.out)

pub one_relationship : (v : Json) (a b : RelationshipRow) → IsRelationshipRow v a → IsRelationshipRow v b → a ≡ b
one_relationship v a b x y = same_relationship a b (x.id ∙ sym y.id) (x.kind ∙ sym y.kind) (x.directed ∙ sym y.directed) (x.origin ∙ sym y.origin) (x.between ∙ sym y.between) (x.destination ∙ sym y.destination)

pub one_unit : HasOnePoint → HasOneShape → (v : Json) (a b : UnitRow) → IsUnitRow v a → IsUnitRow v b → a ≡ b
one_unit point one v a b x y = same_unit a b (x.id ∙ sym y.id) (x.level ∙ sym y.level) (one (geometry v) a.shape b.shape x.shape y.shape) (one_display point (item.property v property.DisplayPoint) a.display b.display x.display y.display) (x.category ∙ sym y.category) (x.restricted ∙ sym y.restricted) (x.name ∙ sym y.name)

pub one_venue : HasOneShape → (v : Json) (a b : VenueRow) → IsVenueRow v a → IsVenueRow v b → a ≡ b
one_venue one v a b x y = same_venue a b (x.id ∙ sym y.id) (x.address ∙ sym y.address) (one (geometry v) a.shape b.shape x.shape y.shape)
