use Rattle.std.proofs.Common.{map, ◌∙◌, ap}
use Rattle.imdf_rows.specs.Lossy.{entry_bytes}
use Rattle.imdf_rows.proofs.Tags.{seen_insert}
use Rattle.imdf_rows.proofs.labels.put.Goals as goal

pub returns : goal.returns
returns c = ap (map entry_bytes) c.in_ok-insert.ensures.entries ∙ seen_insert c.args.texts.now.entries c.args.tag c.args.text
