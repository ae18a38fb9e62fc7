use Rattle.std.proofs.Common.{◌≡◌, ◌+◌, map, take}
use mathlib.Core.List.{IsPrefix}
use Rattle.rule_reports.specs.Passes.{Adds}
use Rattle.ring_rules.specs.Rings.{as_hole}
use Rattle.ring_rules.specs.Findings.{FindsFrom}
use Rattle.ring_rules.proofs.shape_findings.add_holes.Given as goal

-- what the holes before add
abbrev pub invariant-loop-hole : goal.invariant-loop-hole
invariant-loop-hole l = record {
  adds : Adds (FindsFrom l.place.file l.place.index l.first (map (as_hole l.border) (take l.hole-index l.holes))) l.initial.findings.items l.findings.items;
  begins : IsPrefix l.initial.findings.items l.findings.items;
  count : l.number ≡ l.first + l.hole-index;
}
