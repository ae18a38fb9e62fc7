use Rattle.std.proofs.Common.{◌≡◌, length, flat_map, take}
use mathlib.Core.List.{IsPrefix}
use Rattle.rule_reports.specs.Passes.{Adds}
use Rattle.ring_rules.specs.Rings.{placed_in}
use Rattle.ring_rules.specs.Findings.{FindsFrom}
use Rattle.ring_rules.proofs.shape_findings.add_parts.Given as goal

-- what the polygons before add
abbrev pub invariant-loop-part : goal.invariant-loop-part
invariant-loop-part l = record {
  adds : Adds (FindsFrom l.place.file l.place.index 0 (flat_map placed_in (take l.part-index l.parts))) l.initial.findings.items l.findings.items;
  begins : IsPrefix l.initial.findings.items l.findings.items;
  count : l.number ≡ length (flat_map placed_in (take l.part-index l.parts));
}
