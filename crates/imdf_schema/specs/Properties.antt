-- The table of properties: what is read of a feature beside its identifier and its geometry.
use Rattle.std.specs.Prelude.{ℕ, List, [], ◌∷◌, codes}
use Rattle.venue_types.specs.declared.folder_file.File.{File}
use Rattle.venue_types.specs.declared.folder_file.File.TheVariants as file
use Rattle.imdf_schema.specs.declared.forms.Form.{Form}
use Rattle.imdf_schema.specs.declared.forms.Form.TheVariants as form
use Rattle.imdf_schema.specs.declared.table.Property.{Property}
use Rattle.imdf_schema.specs.declared.table.Property.TheVariants as property
use Rattle.imdf_schema.specs.declared.table.ReferenceTarget.{ReferenceTarget}
use Rattle.imdf_schema.specs.declared.table.ReferenceTarget.TheVariants as target
use Rattle.imdf_schema.specs.declared.table.PropertyRow.{PropertyRow}

-- the number of a property
abbrev pub property_number : Property → ℕ
property_number property.AddressId = 1
property_number property.BuildingIds = 2
property_number property.LevelId = 3
property_number property.UnitId = 4
property_number property.UnitIds = 5
property_number property.AnchorId = 6
property_number property.Origin = 7
property_number property.Intermediary = 8
property_number property.Destination = 9
property_number property.Category = 10
property_number property.Restriction = 11
property_number property.Accessibility = 12
property_number property.AccessControl = 13
property_number property.Door = 14
property_number property.DisplayPoint = 15
property_number property.Name = 16

-- its name
abbrev pub property_name : Property → List ℕ
property_name property.AddressId = codes "address_id"
property_name property.BuildingIds = codes "building_ids"
property_name property.LevelId = codes "level_id"
property_name property.UnitId = codes "unit_id"
property_name property.UnitIds = codes "unit_ids"
property_name property.AnchorId = codes "anchor_id"
property_name property.Origin = codes "origin"
property_name property.Intermediary = codes "intermediary"
property_name property.Destination = codes "destination"
property_name property.Category = codes "category"
property_name property.Restriction = codes "restriction"
property_name property.Accessibility = codes "accessibility"
property_name property.AccessControl = codes "access_control"
property_name property.Door = codes "door"
property_name property.DisplayPoint = codes "display_point"
property_name property.Name = codes "name"

-- a property, the file whose features have it, its form, and what it names
abbrev row : Property → File → Form → ReferenceTarget → PropertyRow
row property file form names = record { property = property; file = file; form = form; names = names }

-- all properties of all files
abbrev pub properties : List PropertyRow
properties =
    row property.AddressId file.Venue form.IdOrNull target.Address
    ∷ row property.AddressId file.Building form.IdOrNull target.Address
    ∷ row property.AddressId file.Level form.IdOrNull target.Address
    ∷ row property.AddressId file.Anchor form.IdOrNull target.Address
    ∷ row property.AddressId file.Amenity form.IdOrNull target.Address
    ∷ row property.BuildingIds file.Level form.IdsOrNull target.Building
    ∷ row property.BuildingIds file.Footprint form.IdsOrNull target.Building
    ∷ row property.LevelId file.Unit form.Id target.Level
    ∷ row property.LevelId file.Opening form.Id target.Level
    ∷ row property.LevelId file.Fixture form.IdOrNull target.Level
    ∷ row property.LevelId file.Kiosk form.IdOrNull target.Level
    ∷ row property.LevelId file.Detail form.IdOrNull target.Level
    ∷ row property.UnitId file.Anchor form.Id target.Unit
    ∷ row property.UnitIds file.Amenity form.Ids target.Unit
    ∷ row property.AnchorId file.Occupant form.Id target.Anchor
    ∷ row property.AnchorId file.Fixture form.IdOrNull target.Anchor
    ∷ row property.AnchorId file.Kiosk form.IdOrNull target.Anchor
    ∷ row property.Origin file.Relationship form.Reference target.ByReference
    ∷ row property.Intermediary file.Relationship form.References target.ByReference
    ∷ row property.Destination file.Relationship form.Reference target.ByReference
    ∷ row property.Category file.Unit form.Text target.Nothing
    ∷ row property.Category file.Amenity form.Text target.Nothing
    ∷ row property.Category file.Relationship form.Text target.Nothing
    ∷ row property.Restriction file.Unit form.TextOrNull target.Nothing
    ∷ row property.Accessibility file.Opening form.TextsOrNull target.Nothing
    ∷ row property.AccessControl file.Opening form.TextsOrNull target.Nothing
    ∷ row property.Door file.Opening form.Door target.Nothing
    ∷ row property.DisplayPoint file.Unit form.DisplayPoint target.Nothing
    ∷ row property.Name file.Unit form.Name target.Nothing
    ∷ row property.Name file.Amenity form.Name target.Nothing
    ∷ row property.Name file.Occupant form.Name target.Nothing
    ∷ []
