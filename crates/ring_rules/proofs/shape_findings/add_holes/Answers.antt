use Rattle.std.proofs.Common.{List, map, refl, subst, sym, arith}
use Rattle.std.proofs.lemmas.List.{take_all}
use Rattle.venue_types.specs.declared.point.Ring.{Ring}
use Rattle.rule_reports.specs.Passes.{Adds}
use Rattle.ring_rules.specs.Rings.{as_hole}
use Rattle.ring_rules.specs.Findings.{FindsFrom}
use Rattle.ring_rules.proofs.FitLemmas.{fit_hole}
use Rattle.rule_reports.proofs.Beginnings.{begins_same, begins_then}
use Rattle.ring_rules.proofs.FindingLemmas.{adds_none, hole_step}
use Rattle.ring_rules.proofs.shape_findings.add_holes.Goals as goal

pub add_hole-requires : goal.add_hole-requires
add_hole-requires c = fit_hole c.args.border.now c.args.holes.now c.hole-item.result (c.loop-hole.hole-index, c.loop-hole-test.true, sym c.hole-item.is) c.requires

pub loop-hole-init : goal.loop-hole-init
loop-hole-init c = record { adds = adds_none _ _ _ _; begins = begins_same c.args.findings.now.items c.args.findings.now.items refl; count = omega arith }

pub loop-hole-preserved : goal.loop-hole-preserved
loop-hole-preserved c = record {
  adds = hole_step c.args.place.file c.args.place.index c.args.first c.loop-hole.number c.args.border.now c.args.holes.now c.loop-hole.hole-index c.hole-item.result
      c.args.findings.now.items c.loop-hole.findings.items c.add_hole.new.findings.items c.loop-hole-test.true c.hole-item.is c.loop-hole.invariant.count c.loop-hole.invariant.adds c.in_ok-add_hole.ensures.adds;
  begins = begins_then c.args.findings.now.items c.loop-hole.findings.items c.add_hole.new.findings.items c.loop-hole.invariant.begins c.in_ok-add_hole.ensures.begins;
  count = omega (arith, c.in_ok-number.ensures, c.loop-hole.invariant.count);
}

pub returns-clause-adds : goal.returns-clause-adds
returns-clause-adds c =
    let all = take_all c.loop-hole.hole-index c.args.holes.now c.loop-hole-test.false in
    subst (λ (holes : List Ring). Adds (FindsFrom c.args.place.file c.args.place.index c.args.first (map (as_hole c.args.border.now) holes)) c.args.findings.now.items c.loop-hole.findings.items) all c.loop-hole.invariant.adds
