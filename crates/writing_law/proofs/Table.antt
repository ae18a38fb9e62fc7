-- The properties of a file, of all that the table of properties has.
use Rattle.std.specs.Prelude.{Contains}
use Rattle.std.specs.List.{AllByRecursion}
use Rattle.std.proofs.lemmas.List.Elements.{All-from_recursion, All-contains}
use Rattle.venue_types.specs.declared.folder_file.File.{File}
use Rattle.venue_types.specs.declared.folder_file.File.TheVariants as file
use Rattle.imdf_schema.specs.declared.forms.Form.{Form}
use Rattle.imdf_schema.specs.declared.forms.Form.TheVariants as form
use Rattle.imdf_schema.specs.declared.table.Property.{Property}
use Rattle.imdf_schema.specs.declared.table.Property.TheVariants as property
use Rattle.imdf_schema.specs.declared.table.ReferenceTarget.{ReferenceTarget}
use Rattle.imdf_schema.specs.declared.table.ReferenceTarget.TheVariants as target
use Rattle.imdf_schema.specs.declared.table.PropertyRow.{PropertyRow}
use Rattle.imdf_schema.specs.Properties.{properties}

abbrev row : Property → File → Form → ReferenceTarget → PropertyRow
row p f kind names = record { property = p; file = f; form = kind; names = names }

-- what holds of each property of a file
abbrev pub OfFile : (PropertyRow → Type 0) → File → Type 0
OfFile P file.Manifest = Unit {0}
OfFile P file.Address = Unit {0}
OfFile P file.Amenity = P (row property.AddressId file.Amenity form.IdOrNull target.Address) × P (row property.UnitIds file.Amenity form.Ids target.Unit) × P (row property.Category file.Amenity form.Text target.Nothing) × P (row property.Name file.Amenity form.Name target.Nothing)
OfFile P file.Anchor = P (row property.AddressId file.Anchor form.IdOrNull target.Address) × P (row property.UnitId file.Anchor form.Id target.Unit)
OfFile P file.Building = P (row property.AddressId file.Building form.IdOrNull target.Address)
OfFile P file.Detail = P (row property.LevelId file.Detail form.IdOrNull target.Level)
OfFile P file.Fixture = P (row property.LevelId file.Fixture form.IdOrNull target.Level) × P (row property.AnchorId file.Fixture form.IdOrNull target.Anchor)
OfFile P file.Footprint = P (row property.BuildingIds file.Footprint form.IdsOrNull target.Building)
OfFile P file.Geofence = Unit {0}
OfFile P file.Kiosk = P (row property.LevelId file.Kiosk form.IdOrNull target.Level) × P (row property.AnchorId file.Kiosk form.IdOrNull target.Anchor)
OfFile P file.Level = P (row property.AddressId file.Level form.IdOrNull target.Address) × P (row property.BuildingIds file.Level form.IdsOrNull target.Building)
OfFile P file.Occupant = P (row property.AnchorId file.Occupant form.Id target.Anchor) × P (row property.Name file.Occupant form.Name target.Nothing)
OfFile P file.Opening = P (row property.LevelId file.Opening form.Id target.Level) × P (row property.Accessibility file.Opening form.TextsOrNull target.Nothing) × P (row property.AccessControl file.Opening form.TextsOrNull target.Nothing) × P (row property.Door file.Opening form.Door target.Nothing)
OfFile P file.Relationship = P (row property.Origin file.Relationship form.Reference target.ByReference) × P (row property.Intermediary file.Relationship form.References target.ByReference) × P (row property.Destination file.Relationship form.Reference target.ByReference) × P (row property.Category file.Relationship form.Text target.Nothing)
OfFile P file.Section = Unit {0}
OfFile P file.Unit = P (row property.LevelId file.Unit form.Id target.Level) × P (row property.Category file.Unit form.Text target.Nothing) × P (row property.Restriction file.Unit form.TextOrNull target.Nothing) × P (row property.DisplayPoint file.Unit form.DisplayPoint target.Nothing) × P (row property.Name file.Unit form.Name target.Nothing)
OfFile P file.Venue = P (row property.AddressId file.Venue form.IdOrNull target.Address)

each_row : (P : PropertyRow → Type 0) → AllByRecursion (λ p. OfFile P p.file → P p) properties
each_row P =
    (λ o. o, (λ o. o, (λ o. o.0, (λ o. o.0, (λ o. o.0, (λ o. o.1, (λ o. o, (λ o. o.0, (λ o. o.0, (λ o. o.0, (λ o. o.0, (λ o. o, (λ o. o.1, (λ o. o.1, (λ o. o.0, (λ o. o.1, (λ o. o.1, (λ o. o.0, (λ o. o.1, (λ o. o.2, (λ o. o.1, (λ o. o.2, (λ o. o.3, (λ o. o.2, (λ o. o.1, (λ o. o.2, (λ o. o.3, (λ o. o.3, (λ o. o.4, (λ o. o.3, (λ o. o.1, tt)))))))))))))))))))))))))))))))

-- a row of the table is one of its file's
pub of_table : (P : PropertyRow → Type 0) (p : PropertyRow) → Contains properties p → OfFile P p.file → P p
of_table P p at = All-contains (λ q. OfFile P q.file → P q) properties p (All-from_recursion (λ q. OfFile P q.file → P q) properties (each_row P)) at
