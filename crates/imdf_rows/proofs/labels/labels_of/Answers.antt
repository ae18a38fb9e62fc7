use Rattle.imdf_rows.proofs.Tags.{object_labels}
use Rattle.imdf_rows.proofs.labels.labels_of.Goals as goal

pub returns : goal.returns
returns c = object_labels c.labels_among.result c.args.members.now c.as_slice.result.now c.as_slice.ensures c.labels_among.ensures
