use Rattle.rule_reports.specs.Passes.{Adds}
use Rattle.rule_reports.proofs.Adding.{Below}
use Rattle.imdf_refs.specs.Gathering.{DanglesInProperty}
use Rattle.imdf_refs.proofs.rule_checks.judge_properties.Given as goal

-- what dangles in the properties before is added
abbrev pub invariant-loop-row : goal.invariant-loop-row
invariant-loop-row l = Adds (Below (λ i row. DanglesInProperty l.known l.features row) l.table l.row-index) l.initial.findings.items l.findings.items
