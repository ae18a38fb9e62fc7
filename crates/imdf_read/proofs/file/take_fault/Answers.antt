use Rattle.std.proofs.Common.{true}
use Rattle.rule_reports.proofs.Adding.{Adds-found}
use Rattle.imdf_read.proofs.Slots.{fault_adds, fault_notes, fault_takes}
use Rattle.imdf_read.proofs.file.take_fault.Goals as goal

pub returns-clause-findings : goal.returns-clause-findings
returns-clause-findings g c = λ slot fault.
    let a = c.args.gathered.now.findings.items in
    let b = c.add.new.places.items in
    fault_adds c.args.file slot c.args.rule c.whole.result a b c.requires fault c.whole.ensures
    (λ P into back. Adds-found P true c.whole.result a b c.in_ok-add.ensures.ok into back)

pub returns-clause-notes : goal.returns-clause-notes
returns-clause-notes g c = λ slot fault. fault_notes c.args.file slot c.args.rule c.args.gathered.now.notes.items fault

pub returns-clause-taken : goal.returns-clause-taken
returns-clause-taken g c = λ slot fault. fault_takes g.R.FeatureRow.is_row c.args.file slot c.args.rule c.nothing.result fault c.nothing.ensures
