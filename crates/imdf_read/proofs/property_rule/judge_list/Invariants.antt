use Rattle.std.proofs.Common.{map}
use Rattle.exact_json.specs.View.{tree_view}
use Rattle.rule_reports.specs.Passes.{Adds}
use Rattle.rule_reports.proofs.Adding.{Below}
use Rattle.imdf_read.proofs.PropertyRule.{BadItem}
use Rattle.imdf_read.proofs.property_rule.judge_list.Given as goal

-- what the items before add
abbrev pub invariant-loop-k : goal.invariant-loop-k
invariant-loop-k l = Adds (Below (BadItem l.row l.place.file l.place.index) (map tree_view l.items) l.k) l.initial.findings.items l.findings.items
