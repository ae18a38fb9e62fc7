use Rattle.imdf_rows.proofs.LabelLists.{labels_are}
use Rattle.imdf_rows.proofs.laws.labels_law.Goals as goal

pub returns : goal.returns
returns c = labels_are
