use Rattle.std.proofs.Common.{map}
use mathlib.Core.List.{IsPrefix}
use Rattle.rule_reports.specs.Passes.{Adds}
use Rattle.rule_reports.proofs.Adding.{Below}
use Rattle.ring_rules.specs.Rings.{placed_rings}
use Rattle.ring_rules.specs.Findings.{FindsFrom}
use Rattle.ring_rules.proofs.ring_findings.add_rows.Given as goal

-- what the rows before add
abbrev pub invariant-loop-k : goal.invariant-loop-k
invariant-loop-k g l = record {
  adds : Adds (Below (λ k shape. FindsFrom l.file k 0 (placed_rings shape)) (map g.R.HasShape.shape_of l.rows) l.k) l.initial.findings.items l.findings.items;
  begins : IsPrefix l.initial.findings.items l.findings.items;
}
