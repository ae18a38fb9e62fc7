use Rattle.rule_reports.proofs.Adding.{on_ok}
use Rattle.contain_rules.proofs.Judgements.{four_rules}
use Rattle.contain_rules.proofs.hold_findings.add_hold_findings.Goals as goal

pub returns-clause-adds : goal.returns-clause-adds
returns-clause-adds c = on_ok c.judge-4.result _ _ c.judge-4.ensures.adds (λ four.
    four_rules c.args.features.now c.args.tolerance _ _ _ _ _ c.in_ok-judge.ensures.adds c.in_ok-judge-2.ensures.adds c.in_ok-judge-3.ensures.adds four)
