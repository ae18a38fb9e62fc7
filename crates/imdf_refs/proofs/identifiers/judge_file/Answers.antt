use Rattle.std.proofs.Common.{◌≡◌, ◌∙◌, ◌<◌, ◌≤◌, List, not, Some, get_or, length, subst, arith}
use Rattle.std.specs.Prelude.{slice_get}
use Rattle.std.proofs.lemmas.Option.{slice_get-get_or}
use Rattle.venue_types.specs.declared.feature_id.FeatureId.{FeatureId}
use Rattle.feature_rows.specs.Rows.{ids_of, IsFeature}
use Rattle.rule_reports.proofs.Adding.{Adds-start, Adds-step, Adds-end, Adds-found}
use Rattle.imdf_refs.proofs.Indexing.{one_more_of, one_file}
use Rattle.imdf_refs.proofs.Naming.{RepeatsAt, told, told_in_file}
use Rattle.imdf_refs.proofs.identifiers.judge_file.Goals as goal

pub loop-k-init : goal.loop-k-init
loop-k-init c = record { known = c.requires.known; told = Adds-start _ _ _ }

pub loop-k-preserved : goal.loop-k-preserved
loop-k-preserved c =
    let features = c.args.features.now in
    let f = c.args.file in
    let k = c.loop-k.k in
    let ids = c.deref-id-items.result.now in
    let none : FeatureId = record { 0 = 0 } in
    let id = get_or ids k none in
    let fresh = c.in_ok-fresh.fresh in
    let front = c.loop-k.findings.items in
    let within : k < length ids = omega arith in
    let at : slice_get ids k ≡ Some id = slice_get-get_or ids k none within in
    let there : IsFeature features f k id = subst (λ (xs : List FeatureId). slice_get xs k ≡ Some id) (c.deref-id-items.ensures.value ∙ c.in_ok-ids.ensures) at in
    record {
      known = one_more_of features f c.number.result k id c.loop-k.known c.insert.new.self c.number.ensures there c.loop-k.invariant.known c.in_ok-fresh.ensures.ids c.in_ok-fresh.ensures.typed;
      told = Adds-step (RepeatsAt features f) ids k id at c.loop-k.invariant.told
          (told features f k id c.loop-k.known fresh c.finding.result front c.add.new.places.items c.loop-k.invariant.known c.in_ok-fresh.ensures.fresh c.finding.ensures
          (λ P into back. Adds-found P (not fresh) c.finding.result front c.add.new.places.items c.in_ok-add.ensures.ok into back));
    }

pub returns : goal.returns
returns c =
    let features = c.args.features.now in
    let f = c.args.file in
    let k = c.loop-k.k in
    let ids = c.deref-id-items.result.now in
    let is : ids ≡ ids_of f features = c.deref-id-items.ensures.value ∙ c.in_ok-ids.ensures in
    record {
      known = one_file features f k c.loop-k.known (subst (λ (xs : List FeatureId). length xs ≤ k) is c.loop-k-test.false) c.loop-k.invariant.known;
      findings = told_in_file features f ids c.args.findings.now.items c.loop-k.findings.items is
          (Adds-end (RepeatsAt features f) ids k c.loop-k-test.false c.loop-k.invariant.told);
    }
