use Rattle.std.proofs.Common.{◌≡◌, drop, flat_map}
use Rattle.plane_exact.specs.Figure.{part_edges, part_points}
use Rattle.plane_exact.specs.Looks.{FitsWay, joined_look, look_at}
use Rattle.plane_exact.proofs.sights.look_at_parts.Given as goal

-- what was told so far and what is told ahead make up all
abbrev pub invariant-loop-part : goal.invariant-loop-part
invariant-loop-part l = record {
  fits : FitsWay l.way (flat_map part_points (drop l.part-index l.parts));
  told : joined_look l.look (look_at l.way (flat_map part_edges (drop l.part-index l.parts)) (flat_map part_points (drop l.part-index l.parts))) ≡ look_at l.way (flat_map part_edges l.parts) (flat_map part_points l.parts);
}
