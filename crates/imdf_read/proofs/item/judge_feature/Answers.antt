use Rattle.exact_json.specs.View.{tree_view}
use Rattle.imdf_read.proofs.ItemRules.{feature_adds}
use Rattle.imdf_read.proofs.item.judge_feature.Goals as goal

pub returns-clause-adds : goal.returns-clause-adds
returns-clause-adds c =
    feature_adds c.args.place.file c.args.place.index (tree_view c.args.item.now)
    c.args.findings.now.items c.judge_plain.new.findings.items c.judge_properties.new.findings.items c.judge_figure.new.findings.items
    c.requires.feature c.in_ok-judge_plain.ensures c.in_ok-judge_properties.ensures c.in_ok-judge_figure.ensures
