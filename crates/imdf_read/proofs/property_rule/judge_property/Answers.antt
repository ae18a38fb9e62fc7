use Rattle.std.proofs.Common.{◌≡◌, ◌∙◌, ◌^◌, List, [], Option, unwrap_or, not, map, rules, sym, ap, subst, ◌↔◌, IsTrue, Result, Ok, Err}
use Rattle.std.specs.Result.{OnOk}
use denote.Enum.Bare.{differs_true, differs_false}
use Rattle.exact_json.specs.Json.{Json}
use Rattle.exact_json.specs.View.{tree_view}
use Rattle.venue_types.specs.contracts.folder_file.File.{the_type}
use Rattle.imdf_schema.specs.Forms.{Fits, items_of}
use Rattle.imdf_schema.specs.Items.{property}
use Rattle.imdf_schema.specs.Properties.{property_number}
use Rattle.imdf_schema.specs.declared.rules.Rule.TheVariants.{C6}
use Rattle.rule_reports.specs.Passes.{Adds}
use Rattle.imdf_schema.specs.Places.{finding_at}
use Rattle.rule_reports.proofs.Adding.{Adds-found}
use Rattle.imdf_read.proofs.Narrow.{narrow_property, few_items}
use Rattle.imdf_read.proofs.PropertyRule.{BadWhole, adds_bad_whole, misformed, no_items, not_ours}
use Rattle.imdf_read.proofs.property_rule.judge_property.Goals as goal

shown : (list seen : Option (List Json)) → list ≡ seen → unwrap_or list [] ≡ unwrap_or seen []
shown list seen e = ap (λ (o : Option (List Json)). unwrap_or o []) e

on_ok : {T E : Type 0} (r : Result T E) (P Q : Type 0) → OnOk r P → (P → Q) → OnOk r Q
on_ok (Ok x) P Q h f = f h
on_ok (Err e) P Q h f = tt

pub returns-then-ne : goal.returns-then-ne
returns-then-ne c = not_ours c.args.row.now c.args.place.file c.args.place.index (tree_view c.args.item.now) c.args.findings.now.items
    (differs_true the_type c.args.row.now.file c.args.place.file (sym c.if-ne.ensures))

pub judge_list-requires : goal.judge_list-requires
judge_list-requires c =
    let item = tree_view c.args.item.now in
    let p = c.args.row.now.property in
    few_items (2 ^ 25) c.args.row.now.form (property item p) _ c.in-Some.items.now (narrow_property (2 ^ 25) item p c.requires) c.property-value.ensures (shown _ _ c.in-Some.ensures)

pub returns-in-Some : goal.returns-in-Some
returns-in-Some c =
    let row = c.args.row.now in
    let f = c.args.place.file in
    let i = c.args.place.index in
    let item = tree_view c.args.item.now in
    let v = property item row.property in
    let a = c.args.findings.now.items in
    let b = c.add.new.places.items in
    let own = differs_false the_type (search rules) row.file f (sym c.if-ne.ensures) in
    let fits : IsTrue c.in_ok-fit.fit ↔ Fits row.form v = subst (λ (w : Json). IsTrue c.in_ok-fit.fit ↔ Fits row.form w) c.property-value.ensures c.in_ok-fit.ensures in
    let is : c.finding.result ≡ finding_at C6 f i (property_number row.property) = c.finding.ensures ∙ ap (finding_at C6 f i) c.number-member.ensures in
    let one : Adds (BadWhole row f i v) a b = adds_bad_whole row f i v c.in_ok-fit.fit c.finding.result a b fits is
    (λ P into back. Adds-found P (not c.in_ok-fit.fit) c.finding.result a b c.in_ok-add.ensures.ok into back) in
    let list : items_of row.form v ≡ map tree_view c.in-Some.items.now = sym (shown _ _ c.in-Some.ensures ∙ ap (items_of row.form) c.property-value.ensures) in
    on_ok c.judge_list.result _ _ c.judge_list.ensures (λ other. misformed row f i item (map tree_view c.in-Some.items.now) a b c.judge_list.new.findings.items own list one other)

pub returns-in-None : goal.returns-in-None
returns-in-None c =
    let row = c.args.row.now in
    let f = c.args.place.file in
    let i = c.args.place.index in
    let item = tree_view c.args.item.now in
    let v = property item row.property in
    let a = c.args.findings.now.items in
    let b = c.add.new.places.items in
    let own = differs_false the_type (search rules) row.file f (sym c.if-ne.ensures) in
    let fits : IsTrue c.in_ok-fit.fit ↔ Fits row.form v = subst (λ (w : Json). IsTrue c.in_ok-fit.fit ↔ Fits row.form w) c.property-value.ensures c.in_ok-fit.ensures in
    let is : c.finding.result ≡ finding_at C6 f i (property_number row.property) = c.finding.ensures ∙ ap (finding_at C6 f i) c.number-member.ensures in
    let one : Adds (BadWhole row f i v) a b = adds_bad_whole row f i v c.in_ok-fit.fit c.finding.result a b fits is
    (λ P into back. Adds-found P (not c.in_ok-fit.fit) c.finding.result a b c.in_ok-add.ensures.ok into back) in
    let list : items_of row.form v ≡ [] = sym (shown _ _ c.in-None.ensures ∙ ap (items_of row.form) c.property-value.ensures) in
    misformed row f i item [] a b b own list one (no_items row f i b)
