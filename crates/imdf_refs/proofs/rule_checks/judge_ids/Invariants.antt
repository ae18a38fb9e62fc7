use Rattle.std.proofs.Common.{map}
use Rattle.rule_reports.specs.Passes.{Adds}
use Rattle.rule_reports.proofs.Adding.{Below}
use Rattle.imdf_refs.specs.References.{by_id}
use Rattle.imdf_refs.specs.Gathering.{DanglesAt}
use Rattle.imdf_refs.proofs.rule_checks.judge_ids.Given as goal

-- what dangles at the ids before is added
abbrev pub invariant-loop-k : goal.invariant-loop-k
invariant-loop-k l = Adds (Below (DanglesAt l.known l.row l.index) (map by_id l.ids) l.k) l.initial.findings.items l.findings.items
