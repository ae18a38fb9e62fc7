use Rattle.std.proofs.Common.{[], ◌∷◌, map}
use Rattle.rule_reports.proofs.Adding.{on_ok}
use Rattle.ring_rules.specs.Rings.{as_hole}
use Rattle.ring_rules.specs.Findings.{alone}
use Rattle.ring_rules.proofs.FitLemmas.{fit_first}
use Rattle.ring_rules.proofs.FindingLemmas.{adds_one, adds_more}
use Rattle.ring_rules.proofs.shape_findings.add_part.Goals as goal

pub add_ring-requires : goal.add_ring-requires
add_ring-requires c = fit_first c.args.part.now.outer c.args.part.now.holes c.requires

pub returns-clause-adds : goal.returns-clause-adds
returns-clause-adds c =
    let f = c.args.place.file in
    let i = c.args.place.index in
    let first = c.args.first in
    let border = c.args.part.now.outer in
    let old = c.args.findings.now.items in
    let outer = adds_one f i first (alone border) old c.add_ring.new.findings.items c.in_ok-add_ring.ensures.adds in
    on_ok c.add_holes_of.result _ _ c.add_holes_of.ensures.adds (λ adds.
    adds_more f i first c.in_ok-hole.hole (alone border ∷ []) (map (as_hole border) c.args.part.now.holes) old c.add_ring.new.findings.items c.add_holes_of.new.findings.items c.in_ok-hole.ensures outer adds)
