use Rattle.std.proofs.Common.{map}
use Rattle.rule_reports.specs.Passes.{Adds}
use Rattle.rule_reports.proofs.Adding.{Below}
use Rattle.imdf_refs.specs.Gathering.{DanglesAmong}
use Rattle.imdf_refs.proofs.rule_checks.judge_rows.Given as goal

-- what dangles at the features before is added
abbrev pub invariant-loop-k : goal.invariant-loop-k
invariant-loop-k g l = Adds (Below (DanglesAmong l.known l.row) (map (g.R.HasReferences.references_of l.row.property) l.features) l.k) l.initial.findings.items l.findings.items
