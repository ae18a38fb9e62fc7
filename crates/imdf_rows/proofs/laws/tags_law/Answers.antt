use Rattle.std.proofs.Common.{◌≡◌, List, sym, subst}
use Rattle.venue_types.proofs.Zips.{zip_all}
use Rattle.exact_json.specs.Json.{Json}
use Rattle.venue_types.specs.declared.features.Label.{Label}
use Rattle.imdf_schema.specs.declared.table.Property.TheVariants as property
use Rattle.imdf_schema.specs.Items as item
use Rattle.imdf_schema.specs.Contents.{content_items}
use Rattle.imdf_rows.specs.Fields.{labels_field}
use Rattle.imdf_rows.specs.Laws.{TagsAscend}
use Rattle.imdf_rows.specs.Rows.{IsAmenityRow, IsOccupantRow, IsUnitRow}
use Rattle.imdf_rows.proofs.LabelLists.{labels_are}
use Rattle.imdf_rows.proofs.laws.tags_law.Goals as goal

ascend : (v : Json) (labels : List Label) → labels ≡ labels_field v → TagsAscend labels
ascend v labels e = subst TagsAscend (sym e) (labels_are v).ascend

pub returns : goal.returns
returns c = λ files features are. record {
  amenities = zip_all IsAmenityRow (λ row. TagsAscend row.name) (λ v row is. ascend (item.property v property.Name) row.name is.name) (content_items are.amenities.content) features.amenities are.amenities.each;
  occupants = zip_all IsOccupantRow (λ row. TagsAscend row.name) (λ v row is. ascend (item.property v property.Name) row.name is.name) (content_items are.occupants.content) features.occupants are.occupants.each;
  units = zip_all IsUnitRow (λ row. TagsAscend row.name) (λ v row is. ascend (item.property v property.Name) row.name is.name) (content_items are.units.content) features.units are.units.each;
}
