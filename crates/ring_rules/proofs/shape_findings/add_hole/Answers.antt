use Rattle.std.proofs.Common.{[], ◌∷◌}
use Rattle.venue_types.proofs.Items.{Contains-first, Contains-later}
use Rattle.rule_reports.proofs.Adding.{on_ok}
use Rattle.imdf_schema.specs.declared.rules.Rule.TheVariants.{G4}
use Rattle.ring_rules.specs.Rings.{as_hole}
use Rattle.ring_rules.proofs.FitLemmas.{close_two, fit_second}
use Rattle.ring_rules.proofs.FindingLemmas.{adds_rule, adds_hole}
use Rattle.ring_rules.proofs.shape_findings.add_hole.Goals as goal

pub leaves_border-leaves-requires : goal.leaves_border-leaves-requires
leaves_border-leaves-requires c =
    let border = c.args.border.now in
    let hole = c.args.hole.now in
    close_two (border ∷ hole ∷ []) hole border (Contains-later border (hole ∷ []) hole (Contains-first hole [])) (Contains-first border (hole ∷ [])) c.requires

pub add_ring-requires : goal.add_ring-requires
add_ring-requires c = fit_second c.args.border.now c.args.hole.now c.requires

pub returns-clause-adds : goal.returns-clause-adds
returns-clause-adds c =
    let f = c.args.place.file in
    let i = c.args.place.index in
    let n = c.args.number in
    let border = c.args.border.now in
    let hole = c.args.hole.now in
    let leaving = adds_rule G4 f i n (as_hole border hole) c.leaves_border-leaves.result c.finding.result c.args.findings.now.items c.add.new.places.items c.in_ok-add.ensures.ok
    c.leaves_border-leaves.ensures c.finding.ensures in
    on_ok c.add_ring.result _ _ c.add_ring.ensures.adds (λ adds.
    adds_hole f i n border hole c.args.findings.now.items c.add.new.places.items c.add_ring.new.findings.items leaving adds)
