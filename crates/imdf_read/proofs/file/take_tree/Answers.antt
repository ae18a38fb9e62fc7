use Rattle.std.proofs.Common.{◌≡◌, ◌≤◌, ◌^◌, List, [], Option, Some, unwrap_or, not, length, sym, ap, subst, codes}
use Rattle.std.specs.Prelude.{slice_get}
use Rattle.exact_json.specs.Json.{Json, member}
use Rattle.exact_json.specs.View.{tree_view}
use Rattle.imdf_schema.specs.Items.{items_in}
use Rattle.rule_reports.specs.Passes.{Adds}
use Rattle.imdf_read.specs.Gathering.{FindsInItems, NotesInItems}
use Rattle.imdf_read.specs.Taking.{TakesItems}
use Rattle.rule_reports.proofs.Adding.{Adds-found}
use Rattle.imdf_read.proofs.Narrow.{narrow_member, narrow_listed, narrow_item, texts_member, texts_item}
use Rattle.imdf_read.proofs.Slots.{adds_collection, adds_not_one, value_adds, value_notes, value_takes}
use Rattle.imdf_read.proofs.file.take_tree.Goals as goal

shown : (list seen : Option (List Json)) → list ≡ seen → unwrap_or list [] ≡ unwrap_or seen []
shown list seen e = ap (λ (o : Option (List Json)). unwrap_or o []) e

pub take_list-requires-clause-few : goal.take_list-requires-clause-few
take_list-requires-clause-few g c =
    let v = member (tree_view c.args.tree.now) (codes "features") in
    subst (λ (xs : List Json). length xs ≤ 2 ^ 25) (sym (shown _ _ c.items.ensures)) (narrow_listed (2 ^ 25) v (narrow_member (2 ^ 25) (tree_view c.args.tree.now) (codes "features") c.requires.short))

pub take_list-requires-clause-short : goal.take_list-requires-clause-short
take_list-requires-clause-short g c = λ k item at.
    let v = member (tree_view c.args.tree.now) (codes "features") in
    narrow_item (2 ^ 25) v k item (narrow_member (2 ^ 25) (tree_view c.args.tree.now) (codes "features") c.requires.short)
    (subst (λ (xs : List Json). slice_get xs k ≡ Some item) (shown _ _ c.items.ensures) at)

pub take_list-requires-clause-texts : goal.take_list-requires-clause-texts
take_list-requires-clause-texts g c = λ k item at.
    let v = member (tree_view c.args.tree.now) (codes "features") in
    texts_item v k item (texts_member (tree_view c.args.tree.now) (codes "features") c.requires.texts)
    (subst (λ (xs : List Json). slice_get xs k ≡ Some item) (shown _ _ c.items.ensures) at)

pub returns-clause-findings : goal.returns-clause-findings
returns-clause-findings g c = λ slot known.
    let f = c.args.file in
    let v = tree_view c.args.tree.now in
    let a = c.args.gathered.now.findings.items in
    let b = c.add.new.places.items in
    let d = c.take_list.new.gathered.findings.items in
    let e = c.add-2.new.places.items in
    let takes : TakesItems g.R.FeatureRow.is_row f (items_in v) c.in_ok-rows.field-0 = subst (λ (xs : List Json). TakesItems g.R.FeatureRow.is_row f xs c.in_ok-rows.field-0) (shown _ _ c.items.ensures) c.in_ok-rows.ensures.taken in
    value_adds f slot v a b d e c.requires.features known
    (adds_collection f slot v c.is_collection-collection.result c.whole.result a b c.requires.features known c.is_collection-collection.ensures c.whole.ensures
    (λ P into back. Adds-found P (not c.is_collection-collection.result) c.whole.result a b c.in_ok-add.ensures.ok into back))
    (subst (λ (xs : List Json). Adds (FindsInItems f xs) b d) (shown _ _ c.items.ensures) c.in_ok-rows.ensures.findings)
    (adds_not_one f slot v c.is_collection-collection.result c.is_not_one-broken.result c.in_ok-rows.field-0.items c.whole-2.result d e known c.is_collection-collection.ensures takes.items
    c.is_not_one-broken.ensures c.whole-2.ensures
    (λ P into back. Adds-found P c.is_not_one-broken.result c.whole-2.result d e c.in_ok-add-2.ensures.ok into back))

pub returns-clause-notes : goal.returns-clause-notes
returns-clause-notes g c = λ slot known.
    value_notes c.args.file slot (tree_view c.args.tree.now) c.args.gathered.now.notes.items c.take_list.new.gathered.notes.items known
    (subst (λ (xs : List Json). Adds (NotesInItems c.args.file xs) c.args.gathered.now.notes.items c.take_list.new.gathered.notes.items) (shown _ _ c.items.ensures) c.in_ok-rows.ensures.notes)

pub returns-clause-taken : goal.returns-clause-taken
returns-clause-taken g c = λ slot known.
    let f = c.args.file in
    let v = tree_view c.args.tree.now in
    let is = c.is_collection-collection.result in
    value_takes g.R.FeatureRow.is_row f slot v is c.in_ok-rows.field-0 _ known c.is_collection-collection.ensures
    (subst (λ (xs : List Json). TakesItems g.R.FeatureRow.is_row f xs c.in_ok-rows.field-0) (shown _ _ c.items.ensures) c.in_ok-rows.ensures.taken)
    (cc) c.counted.ensures (cc)
