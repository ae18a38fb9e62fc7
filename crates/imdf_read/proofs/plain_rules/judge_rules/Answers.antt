use Rattle.std.proofs.Common.{◌<◌, length, arith}
use Rattle.std.proofs.lemmas.Option.{slice_get-get_or}
use Rattle.exact_json.specs.View.{tree_view}
use Rattle.imdf_schema.specs.declared.rules.Rule.TheVariants.{C3}
use Rattle.imdf_read.specs.Gathering.{FindsRule}
use Rattle.rule_reports.proofs.Adding.{Adds-step, Adds-end, Adds-found}
use Rattle.imdf_read.proofs.PlainRules.{adds_rule, finds_by, next_plain}
use Rattle.imdf_read.proofs.plain_rules.judge_rules.Goals as goal

pub loop-rule-preserved : goal.loop-rule-preserved
loop-rule-preserved c =
    let rules = c.args.rules.now in
    let f = c.args.place.file in
    let i = c.args.place.index in
    let k = c.loop-rule.rule-index in
    let item = tree_view c.args.item.now in
    let within : k < length rules = omega arith in
    record {
      adds = Adds-step (λ n r. FindsRule f i item r) rules k _ (slice_get-get_or rules k _ within) c.loop-rule.invariant.adds
          (adds_rule _ f i item c.breaks-broken.result c.finding.result c.loop-rule.findings.items c.add.new.places.items
          (next_plain rules k _ within c.loop-rule.invariant.plain).0 c.breaks-broken.ensures c.finding.ensures
          (λ P into back. Adds-found P c.breaks-broken.result c.finding.result c.loop-rule.findings.items c.add.new.places.items c.in_ok-add.ensures.ok into back));
      plain = (next_plain rules k C3 within c.loop-rule.invariant.plain).1;
    }

pub returns : goal.returns
returns c = finds_by c.args.rules.now c.args.place.file c.args.place.index (tree_view c.args.item.now) c.args.findings.now.items c.loop-rule.findings.items
    (Adds-end _ c.args.rules.now c.loop-rule.rule-index c.loop-rule-test.false c.loop-rule.invariant.adds)
