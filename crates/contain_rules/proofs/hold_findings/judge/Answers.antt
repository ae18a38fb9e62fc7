use Rattle.std.proofs.Common.{◌∙◌}
use Rattle.rule_reports.specs.Passes.{found}
use Rattle.rule_reports.proofs.Adding.{Adds-step, Adds-end, Adds-found}
use Rattle.rule_reports.proofs.Beginnings.{begins_more, begins_then}
use Rattle.contain_rules.proofs.Judgements.{LeavesAt, finding_held, adds_row, adds_rule, row_there, all_past}
use Rattle.contain_rules.proofs.hold_findings.judge.Goals as goal

pub loop-k-preserved : goal.loop-k-preserved
loop-k-preserved g c =
    let rows = g.R.HasHolder.rows c.args.features.now in
    let k = c.loop-k.k in
    let Leaves = g.R.HasHolder.leaves c.args.features.now c.args.tolerance in
    record {
      adds = Adds-step (λ n row. LeavesAt Leaves g.R.HasHolder.rule n row) rows k c.row-item.result (row_there c.as_slice-row-items.result.now rows k c.row-item.result (c.as_slice-row-items.ensures ∙ c.rows.ensures) c.loop-k-test.true c.row-item.is) c.loop-k.invariant.adds
          (adds_row Leaves g.R.HasHolder.rule k c.row-item.result c.leaves-leaves.result c.finding.result c.loop-k.findings.items c.add.new.places.items c.leaves-leaves.ensures (finding_held c.rule.result g.R.HasHolder.rule c.file.result k c.finding.result c.rule.ensures c.file.ensures c.finding.ensures)
          (λ P into back. Adds-found P c.leaves-leaves.result c.finding.result c.loop-k.findings.items c.add.new.places.items c.in_ok-add.ensures.ok into back));
      begins = begins_then c.args.findings.now.items c.loop-k.findings.items c.add.new.places.items c.loop-k.invariant.begins (begins_more c.loop-k.findings.items (found c.leaves-leaves.result c.finding.result) c.add.new.places.items c.in_ok-add.ensures.ok);
    }

pub returns-clause-adds : goal.returns-clause-adds
returns-clause-adds g c =
    let rows = g.R.HasHolder.rows c.args.features.now in
    let Leaves = g.R.HasHolder.leaves c.args.features.now c.args.tolerance in
    adds_rule Leaves rows g.R.HasHolder.rule c.args.findings.now.items c.loop-k.findings.items
    (Adds-end (λ n row. LeavesAt Leaves g.R.HasHolder.rule n row) rows c.loop-k.k (all_past c.as_slice-row-items.result.now rows c.loop-k.k (c.as_slice-row-items.ensures ∙ c.rows.ensures) c.loop-k-test.false) c.loop-k.invariant.adds)
