use Rattle.std.proofs.Common.{List, flat_map, refl, subst, sym}
use Rattle.std.proofs.lemmas.List.{take_all}
use Rattle.venue_types.specs.declared.point.Part.{Part}
use Rattle.rule_reports.specs.Passes.{Adds}
use Rattle.ring_rules.specs.Rings.{placed_in}
use Rattle.ring_rules.specs.Findings.{FindsFrom}
use Rattle.ring_rules.proofs.FitLemmas.{fit_part}
use Rattle.rule_reports.proofs.Beginnings.{begins_same, begins_then}
use Rattle.ring_rules.proofs.FindingLemmas.{adds_none, part_step, part_count}
use Rattle.ring_rules.proofs.shape_findings.add_parts.Goals as goal

pub add_part-requires : goal.add_part-requires
add_part-requires c = fit_part c.args.parts.now c.part-item.result (c.loop-part.part-index, c.loop-part-test.true, sym c.part-item.is) c.requires

pub loop-part-init : goal.loop-part-init
loop-part-init c = record { adds = adds_none _ _ _ _; begins = begins_same c.args.findings.now.items c.args.findings.now.items refl; count = refl }

pub loop-part-preserved : goal.loop-part-preserved
loop-part-preserved c = record {
  adds = part_step c.args.place.file c.args.place.index c.loop-part.number c.args.parts.now c.loop-part.part-index c.part-item.result
      c.args.findings.now.items c.loop-part.findings.items c.add_part.new.findings.items c.loop-part-test.true c.part-item.is c.loop-part.invariant.count c.loop-part.invariant.adds c.in_ok-number.ensures.adds;
  begins = begins_then c.args.findings.now.items c.loop-part.findings.items c.add_part.new.findings.items c.loop-part.invariant.begins c.in_ok-number.ensures.begins;
  count = part_count c.loop-part.number c.in_ok-number.number c.args.parts.now c.loop-part.part-index c.part-item.result c.loop-part-test.true c.part-item.is c.loop-part.invariant.count c.in_ok-number.ensures.next;
}

pub returns-clause-adds : goal.returns-clause-adds
returns-clause-adds c =
    let all = take_all c.loop-part.part-index c.args.parts.now c.loop-part-test.false in
    subst (λ (parts : List Part). Adds (FindsFrom c.args.place.file c.args.place.index 0 (flat_map placed_in parts)) c.args.findings.now.items c.loop-part.findings.items) all c.loop-part.invariant.adds
