use Rattle.exact_json.specs.View.{tree_view}
use Rattle.rule_reports.specs.Passes.{Adds}
use Rattle.imdf_read.specs.Gathering.{FindsMisformed}
use Rattle.rule_reports.proofs.Adding.{Below}
use Rattle.imdf_read.proofs.property_rule.judge_table.Given as goal

-- what the rows before add
abbrev pub invariant-loop-row : goal.invariant-loop-row
invariant-loop-row l = Adds (Below (λ k row. FindsMisformed l.place.file l.place.index (tree_view l.item) row) l.table l.row-index) l.initial.findings.items l.findings.items
