use mathlib.Core.List.{IsPrefix}
use Rattle.rule_reports.specs.Passes.{Adds}
use Rattle.rule_reports.proofs.Adding.{Below}
use Rattle.contain_rules.proofs.Judgements.{LeavesAt}
use Rattle.contain_rules.proofs.hold_findings.judge.Given as goal

-- what the rows before add
abbrev pub invariant-loop-k : goal.invariant-loop-k
invariant-loop-k g l = record {
  adds : Adds (Below (λ k row. LeavesAt (g.R.HasHolder.leaves l.features l.tolerance) g.R.HasHolder.rule k row) (g.R.HasHolder.rows l.features) l.k) l.initial.findings.items l.findings.items;
  begins : IsPrefix l.initial.findings.items l.findings.items;
}
