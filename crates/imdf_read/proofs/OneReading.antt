-- Files in which the first phase finds nothing have one reading.
use Rattle.std.proofs.Common.{◌≡◌, ◌≢◌, ℕ, List, Option, Some, None, refl, ap, subst}
use Rattle.std.specs.List.{AllZip}
use Rattle.venue_types.proofs.Zips.{zip_one}
use Rattle.exact_json.specs.Json.{Json}
use Rattle.exact_json.specs.Grammar.{IsJson}
use Rattle.geo_shapes.specs.Laws.{HasOnePoint, HasOneLine, HasOneShape}
use Rattle.venue_types.specs.declared.files.Files.{Files}
use Rattle.venue_types.specs.declared.files.Slot.{Slot}
use Rattle.venue_types.specs.declared.files.Slot.TheVariants.{Absent, Held}
use Rattle.venue_types.specs.declared.features.Features.{Features}
use Rattle.venue_types.specs.declared.folder_file.File.{File}
use Rattle.venue_types.specs.declared.folder_file.File.TheVariants as file
use Rattle.imdf_schema.specs.Contents.{IsContent, HasContent, content_items}
use Rattle.imdf_rows.specs.Rows.{IsPlainRow, IsAmenityRow, IsAnchorRow, IsBuildingRow, IsDetailRow, IsFixtureRow, IsFootprintRow, IsKioskRow, IsLevelRow, IsOccupantRow, IsOpeningRow, IsRelationshipRow, IsUnitRow, IsVenueRow}
use Rattle.imdf_rows.specs.Folder.{AreRows, AreFeatures}
use Rattle.imdf_read.proofs.Nothing.{FindsNothing, BreaksNone}
use Rattle.imdf_read.proofs.Shapes.{IsKept, kept_rows}
use Rattle.imdf_read.proofs.SameRows.{same_features}
use Rattle.imdf_read.proofs.Unique.{one_plain, one_amenity, one_anchor, one_building, one_detail, one_fixture, one_footprint, one_kiosk, one_level, one_occupant, one_opening, one_relationship, one_unit, one_venue}

-- a text has at most one value
abbrev pub HasOneJson : Type 0
HasOneJson = (b : List ℕ) (j k : Json) → IsJson b j → IsJson b k → j ≡ k

same_content : HasOneJson → (slot : Slot) (a b : Option Json) → IsContent slot a → IsContent slot b → a ≡ b
same_content one slot None None x y = refl
same_content one slot None (Some w) x y = absurd (x w y)
same_content one slot (Some v) None x y = absurd (y v x)
same_content one Absent (Some v) (Some w) x y = absurd x
same_content one (Held bytes) (Some v) (Some w) x y = ap Some (one bytes v w x.1 y.1)

same_slot : (a b : Slot) (o : Option Slot) → o ≡ Some a → o ≡ Some b → a ≡ b
same_slot a b o p q = cc

-- a file has one content
one_content : HasOneJson → (files : Files) (f : File) (a b : Option Json) → HasContent files f a → HasContent files f b → a ≡ b
one_content one files f a b x y =
    let same = same_slot x.slot y.slot _ x.at y.at in
    same_content one y.slot a b (subst (λ (s : Slot). IsContent s a) same x.is) y.is

-- a file whose items have one row each has one list of rows
module _ (one : HasOneJson) (files : Files) (none : FindsNothing files) where
  one_rows : {Row : Type 0} (IsRow : Json → Row → Type 0) (f : File) (xs ys : List Row) → f ≢ file.Manifest → ((v : Json) (x y : Row) → BreaksNone f v → IsRow v x → IsRow v y → x ≡ y)
      → AreRows IsRow files f xs → AreRows IsRow files f ys → xs ≡ ys
  one_rows IsRow f xs ys features row a b =
      let same : a.content ≡ b.content = one_content one files f a.content b.content a.held b.held in
      let left : AllZip (IsKept f IsRow) (content_items b.content) xs = subst (λ (c : Option Json). AllZip (IsKept f IsRow) (content_items c) xs) same (kept_rows IsRow files f xs none features a) in
      zip_one (IsKept f IsRow) (λ v x y h k. row v x y h.0 h.1 k.1) (content_items b.content) xs ys left (kept_rows IsRow files f ys none features b)

  pub one_reading : HasOnePoint → HasOneLine → HasOneShape → (a b : Features) → AreFeatures files a → AreFeatures files b → a ≡ b
  one_reading point line shape a b x y = same_features a b
      (one_rows IsPlainRow file.Address a.addresses b.addresses (λ e. cc) (λ v p q keeps h k. one_plain v p q h k) x.addresses y.addresses)
      (one_rows IsAmenityRow file.Amenity a.amenities b.amenities (λ e. cc) (λ v p q keeps h k. one_amenity point v p q h k) x.amenities y.amenities)
      (one_rows IsAnchorRow file.Anchor a.anchors b.anchors (λ e. cc) (λ v p q keeps h k. one_anchor point v p q h k) x.anchors y.anchors)
      (one_rows IsBuildingRow file.Building a.buildings b.buildings (λ e. cc) (λ v p q keeps h k. one_building v p q h k) x.buildings y.buildings)
      (one_rows IsDetailRow file.Detail a.details b.details (λ e. cc) (λ v p q keeps h k. one_detail v p q h k) x.details y.details)
      (one_rows IsFixtureRow file.Fixture a.fixtures b.fixtures (λ e. cc) (λ v p q keeps h k. one_fixture shape v p q h k) x.fixtures y.fixtures)
      (one_rows IsFootprintRow file.Footprint a.footprints b.footprints (λ e. cc) (λ v p q keeps h k. one_footprint shape v p q h k) x.footprints y.footprints)
      (one_rows IsPlainRow file.Geofence a.geofences b.geofences (λ e. cc) (λ v p q keeps h k. one_plain v p q h k) x.geofences y.geofences)
      (one_rows IsKioskRow file.Kiosk a.kiosks b.kiosks (λ e. cc) (λ v p q keeps h k. one_kiosk v p q h k) x.kiosks y.kiosks)
      (one_rows IsLevelRow file.Level a.levels b.levels (λ e. cc) (λ v p q keeps h k. one_level shape v p q keeps h k) x.levels y.levels)
      (one_rows IsOccupantRow file.Occupant a.occupants b.occupants (λ e. cc) (λ v p q keeps h k. one_occupant v p q h k) x.occupants y.occupants)
      (one_rows IsOpeningRow file.Opening a.openings b.openings (λ e. cc) (λ v p q keeps h k. one_opening line v p q h k) x.openings y.openings)
      (one_rows IsRelationshipRow file.Relationship a.relationships b.relationships (λ e. cc) (λ v p q keeps h k. one_relationship v p q h k) x.relationships y.relationships)
      (one_rows IsPlainRow file.Section a.sections b.sections (λ e. cc) (λ v p q keeps h k. one_plain v p q h k) x.sections y.sections)
      (one_rows IsUnitRow file.Unit a.units b.units (λ e. cc) (λ v p q keeps h k. one_unit point shape v p q h k) x.units y.units)
      (one_rows IsVenueRow file.Venue a.venues b.venues (λ e. cc) (λ v p q keeps h k. one_venue shape v p q h k) x.venues y.venues)
