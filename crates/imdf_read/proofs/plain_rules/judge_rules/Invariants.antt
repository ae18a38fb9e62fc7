use Rattle.std.proofs.Common.{◌≡◌, true, drop}
use Rattle.std.specs.List.{list_all}
use Rattle.exact_json.specs.View.{tree_view}
use Rattle.rule_reports.specs.Passes.{Adds}
use Rattle.imdf_read.specs.Gathering.{FindsRule, is_plain}
use Rattle.rule_reports.proofs.Adding.{Below}
use Rattle.imdf_read.proofs.plain_rules.judge_rules.Given as goal

-- what the rules before add; those that are left are plain
abbrev pub invariant-loop-rule : goal.invariant-loop-rule
invariant-loop-rule l = record {
  adds : Adds (Below (λ k r. FindsRule l.place.file l.place.index (tree_view l.item) r) l.rules l.rule-index) l.initial.findings.items l.findings.items;
  plain : list_all is_plain (drop l.rule-index l.rules) ≡ true;
}
