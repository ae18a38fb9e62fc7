use Rattle.std.proofs.Common.{◌∙◌}
use Rattle.exact_json.specs.View.{object_view}
use Rattle.imdf_schema.specs.Values.{seen}
use Rattle.imdf_rows.proofs.Tags.{labels_some}
use Rattle.imdf_rows.proofs.labels.labels_field.Goals as goal

pub returns-in_ok-labels_of-in-Some : goal.returns-in_ok-labels_of-in-Some
returns-in_ok-labels_of-in-Some c = λ h.
    c.from_vec.ensures ∙ c.in_ok-labels_of-in-Some.ensures ∙ labels_some (seen c.args.value) (object_view c.in-Some.members.now) c.in-Some.ensures h
