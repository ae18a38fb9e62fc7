use Rattle.std.proofs.Common.{◌≡◌, ◌+◌, [], ◌∷◌, List, OnOk, IfOk, length, map, refl, sym, subst, arith}
use mathlib.Core.Path.{subst₂}
use Rattle.venue_types.specs.declared.point.Ring.{Ring}
use Rattle.plane_exact.proofs.NearbyLemmas.{all_nearby}
use Rattle.rule_reports.specs.Passes.{Adds}
use Rattle.ring_rules.specs.Rings.{as_hole}
use Rattle.ring_rules.specs.Judged.{AreFit}
use Rattle.ring_rules.specs.Findings.{FindsFrom}
use Rattle.ring_rules.proofs.FitLemmas.{close_first}
use Rattle.rule_reports.proofs.Beginnings.{begins_same}
use Rattle.ring_rules.proofs.FindingLemmas.{adds_none}
use Rattle.ring_rules.proofs.shape_findings.add_holes_of.Goals as goal

pub returns-then-is_empty : goal.returns-then-is_empty
returns-then-is_empty c =
    let part = c.args.part.now in
    let xs = c.args.findings.now.items in
    let none : part.holes ≡ [] = c.is_empty.ensures.0 c.if-is_empty.true in
    record {
      adds = subst (λ (holes : List Ring). Adds (FindsFrom c.args.place.file c.args.place.index c.args.first (map (as_hole part.outer) holes)) xs xs) (sym none) (adds_none _ _ _ _);
      begins = begins_same xs xs refl;
      next = subst (λ (holes : List Ring). c.args.first ≡ c.args.first + length holes) (sym none) (omega arith);
    }

pub of-requires : goal.of-requires
of-requires c = all_nearby c.args.part.now.outer.points (close_first c.args.part.now.outer c.args.part.now.holes c.requires)

pub add_holes-requires : goal.add_holes-requires
add_holes-requires c = subst₂ (λ (border : Ring) (holes : List Ring). AreFit (border ∷ holes)) (sym c.in_ok-border.ensures) (sym c.as_slice.ensures) c.requires

pub returns : goal.returns
returns c =
    let part = c.args.part.now in
    let result = c.add_holes.result in
    record {
      adds = subst₂ (λ (border : Ring) (holes : List Ring). OnOk result (Adds (FindsFrom c.args.place.file c.args.place.index c.args.first (map (as_hole border) holes)) c.args.findings.now.items c.add_holes.new.findings.items))
          c.in_ok-border.ensures c.as_slice.ensures c.add_holes.ensures.adds;
      begins = c.add_holes.ensures.begins;
      next = subst (λ (holes : List Ring). IfOk result (λ n. n ≡ c.args.first + length holes)) c.as_slice.ensures c.add_holes.ensures.next;
    }
