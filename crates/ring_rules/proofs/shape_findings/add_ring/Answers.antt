use Rattle.rule_reports.proofs.Adding.{on_ok}
use Rattle.imdf_schema.specs.declared.rules.Rule.TheVariants.{G3, G5}
use Rattle.ring_rules.specs.Findings.{alone}
use Rattle.ring_rules.proofs.FindingLemmas.{adds_rule, adds_alone}
use Rattle.ring_rules.proofs.shape_findings.add_ring.Goals as goal

pub returns-clause-adds : goal.returns-clause-adds
returns-clause-adds c =
    let f = c.args.place.file in
    let i = c.args.place.index in
    let n = c.args.number in
    let ring = c.args.ring.now in
    let crossing = adds_rule G3 f i n (alone ring) c.in_ok-crosses.crosses c.finding.result c.args.findings.now.items c.add.new.places.items c.in_ok-add.ensures.ok
    c.in_ok-crosses.ensures c.finding.ensures in
    on_ok c.add-2.result _ _ c.add-2.ensures.ok (λ is.
    adds_alone f i n ring c.args.findings.now.items c.add.new.places.items c.add-2.new.places.items crossing
    (adds_rule G5 f i n (alone ring) c.has_no_area-flat.result c.finding-2.result c.add.new.places.items c.add-2.new.places.items is c.has_no_area-flat.ensures c.finding-2.ensures))
