use Rattle.exact_json.specs.View.{tree_view}
use Rattle.rule_reports.proofs.Adding.{Adds-found, on_ok}
use Rattle.imdf_read.proofs.Manifests.{value_adds}
use Rattle.imdf_read.proofs.manifest.judge_tree.Goals as goal

pub returns : goal.returns
returns c =
    let a = c.args.findings.now.items in
    let b = c.add.new.places.items in
    let d = c.add-2.new.places.items in
    let e = c.add-3.new.places.items in
    on_ok c.add-3.result _ _ c.add-3.ensures.ok (λ last slot known.
    value_adds slot (tree_view c.args.tree.now) c.whole.result c.whole-2.result c.whole-3.result a b d e
    c.lacks_version-version.result c.lacks_created-created.result c.lacks_language-language.result known
    c.whole.ensures c.whole-2.ensures c.whole-3.ensures c.lacks_version-version.ensures c.lacks_created-created.ensures c.lacks_language-language.ensures
    (λ P into back. Adds-found P c.lacks_version-version.result c.whole.result a b c.in_ok-add.ensures.ok into back)
    (λ P into back. Adds-found P c.lacks_created-created.result c.whole-2.result b d c.in_ok-add-2.ensures.ok into back)
    (λ P into back. Adds-found P c.lacks_language-language.result c.whole-3.result d e last into back))
