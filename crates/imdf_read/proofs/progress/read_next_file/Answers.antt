use Rattle.imdf_read.proofs.Folders.{step}
use Rattle.imdf_read.proofs.progress.read_next_file.Goals as goal

pub returns-clause-progress : goal.returns-clause-progress
returns-clause-progress g c = λ n number before.
    step g.R.FeatureRow.is_row c.args.slots.now n c.args.file c.slot_of.result.now c.in_ok-rows.field-0 c.args.progress.now _
    c.requires.count c.requires.features number c.slot_of.ensures c.in_ok-rows.ensures.findings c.in_ok-rows.ensures.notes c.in_ok-rows.ensures.taken
    c.saturating_add-progress.ensures c.saturating_add-progress-2.ensures before
