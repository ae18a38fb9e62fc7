use Rattle.exact_json.specs.View.{tree_view}
use Rattle.imdf_schema.specs.Values.{seen}
use Rattle.imdf_rows.specs.Fields.{text_field}
use Rattle.imdf_rows.proofs.Moved.{moved}
use Rattle.imdf_rows.proofs.members.text_in.Goals as goal

pub returns : goal.returns
returns c = moved c.text_field.result (tree_view c.args.tree.now) (seen c.property.result) c.args.name text_field c.property.ensures c.text_field.ensures.exact
