use Rattle.std.proofs.Common.{true}
use Rattle.rule_reports.proofs.Adding.{Adds-found, on_ok}
use Rattle.imdf_read.proofs.Manifests.{fault_adds}
use Rattle.imdf_read.proofs.manifest.judge_fault.Goals as goal

pub returns : goal.returns
returns c =
    let a = c.args.findings.now.items in
    let b = c.add.new.places.items in
    on_ok c.add.result _ _ c.add.ensures.ok (λ is slot fault.
    fault_adds slot c.args.rule c.whole.result a b fault c.whole.ensures (λ P into back. Adds-found P true c.whole.result a b is into back))
