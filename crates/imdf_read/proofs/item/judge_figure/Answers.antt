use Rattle.std.proofs.Common.{nat_lt}
use Rattle.exact_json.specs.View.{tree_view}
use Rattle.rule_reports.proofs.Adding.{Adds-found, on_ok}
use Rattle.imdf_read.proofs.ItemRules.{geometry_adds}
use Rattle.imdf_read.proofs.item.judge_figure.Goals as goal

pub returns : goal.returns
returns c =
    let j = c.args.judged.now in
    let a = c.args.findings.now.items in
    let b = c.add.new.places.items in
    let d = c.add-2.new.places.items in
    let e = c.add-3.new.places.items in
    on_ok c.add-3.result _ _ c.add-3.ensures.ok (λ last.
    geometry_adds c.args.place.file c.args.place.index (tree_view c.args.item.now) j c.finding.result c.finding-2.result c.finding-3.result a b d e
    c.requires c.finding.ensures c.finding-2.ensures c.finding-3.ensures
    (λ P into back. Adds-found P (nat_lt 20000 j.longest) c.finding.result a b c.in_ok-add.ensures.ok into back)
    (λ P into back. Adds-found P j.bad_position c.finding-2.result b d c.in_ok-add-2.ensures.ok into back)
    (λ P into back. Adds-found P j.bad_form c.finding-3.result d e last into back))
