use Rattle.imdf_refs.specs.Rules.{IsMisnamed}
use Rattle.test_graph.proofs.Reports.{nothing, empty}
use Rattle.test_graph.proofs.rows.judge_names.Goals as goal

pub returns : goal.returns
returns c =
    let features = c.args.features.now in
    let found = c.in_ok-findings.findings in
    let none = empty c.is_empty.result found c.is_empty.ensures c.if-not-is_empty.false in
    c.own_ids_law.ensures features (nothing (IsMisnamed features) found none c.in_ok-findings.ensures.whole)
