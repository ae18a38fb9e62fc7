use Rattle.std.proofs.Common.{◌≡◌, ◌∙◌, ℕ, ◌+◌, ◌*◌, not, length, map, refl, ap, arith}
use Rattle.std.proofs.lemmas.List.{length-map}
use Rattle.std.proofs.lemmas.Option.{slice_get_read}
use Rattle.venue_types.proofs.Items.{at_map}
use Rattle.exact_json.specs.View.{tree_view}
use Rattle.imdf_schema.specs.Properties.{property_number}
use Rattle.imdf_schema.specs.declared.rules.Rule.TheVariants.{C6}
use Rattle.imdf_schema.specs.Places.{finding_at}
use Rattle.rule_reports.proofs.Adding.{Adds-start, Adds-step, Adds-end, Adds-found}
use Rattle.imdf_read.proofs.PropertyRule.{BadItem, adds_bad_item, bad_items}
use Rattle.imdf_read.proofs.property_rule.judge_list.Goals as goal

pub loop-k-init : goal.loop-k-init
loop-k-init c = Adds-start _ _ _

pub loop-k-preserved : goal.loop-k-preserved
loop-k-preserved c =
    let row = c.args.row.now in
    let f = c.args.place.file in
    let i = c.args.place.index in
    let k = c.loop-k.k in
    let item = c.index-items-k.result in
    let at = slice_get_read c.args.items.now (length c.args.items.now) k item refl (omega arith) c.index-items-k.is in
    let is : c.finding.result ≡ finding_at C6 f i (property_number row.property + 64 * k) = c.finding.ensures ∙ ap (λ (n : ℕ). finding_at C6 f i (n + 64 * k)) c.number.ensures in
    Adds-step (BadItem row f i) (map tree_view c.args.items.now) k (tree_view item) (at_map tree_view c.args.items.now k item at) c.loop-k.invariant
    (adds_bad_item row f i k (tree_view item) c.item_fits-unfit.result c.finding.result c.loop-k.findings.items c.add.new.places.items c.item_fits-unfit.ensures is
    (λ P into back. Adds-found P (not c.item_fits-unfit.result) c.finding.result c.loop-k.findings.items c.add.new.places.items c.in_ok-add.ensures.ok into back))

pub returns : goal.returns
returns c =
    let row = c.args.row.now in
    let f = c.args.place.file in
    let i = c.args.place.index in
    bad_items row f i (map tree_view c.args.items.now) c.args.findings.now.items c.loop-k.findings.items
    (Adds-end (BadItem row f i) (map tree_view c.args.items.now) c.loop-k.k (rw length-map c.loop-k-test.false) c.loop-k.invariant)
