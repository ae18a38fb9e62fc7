use Rattle.exact_json.specs.View.{tree_view}
use Rattle.imdf_schema.specs.declared.table.Property.TheVariants as names
use Rattle.imdf_schema.specs.Values.{seen}
use Rattle.imdf_rows.specs.Fields.{labels_field}
use Rattle.imdf_rows.proofs.Moved.{moved}
use Rattle.imdf_rows.proofs.members.labels_in.Goals as goal

pub returns : goal.returns
returns c = moved c.labels_field.result (tree_view c.args.tree.now) (seen c.property.result) names.Name labels_field c.property.ensures c.labels_field.ensures
