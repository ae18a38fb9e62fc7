use Rattle.std.proofs.Common.{◌∙◌, true, sym}
use Rattle.exact_json.specs.View.{tree_view}
use Rattle.rule_reports.proofs.Adding.{Adds-found}
use Rattle.imdf_read.proofs.ItemRules.{no_feature_adds}
use Rattle.imdf_read.proofs.item.judge_item.Goals as goal

pub returns-clause-adds : goal.returns-clause-adds
returns-clause-adds c =
    no_feature_adds c.args.place.file c.args.place.index (tree_view c.args.item.now) c.finding.result c.args.findings.now.items c.add.new.places.items
    (sym c.is_feature.ensures ∙ c.if-is_feature.false) c.finding.ensures
    (λ P into back. Adds-found P true c.finding.result c.args.findings.now.items c.add.new.places.items c.in_ok-add.ensures.ok into back)
