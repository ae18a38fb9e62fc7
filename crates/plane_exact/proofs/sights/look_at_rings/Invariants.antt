use Rattle.std.proofs.Common.{◌≡◌, drop}
use Rattle.plane_exact.specs.Figure.{ring_edges, ring_points}
use Rattle.plane_exact.specs.Looks.{FitsWay, joined_look, look_at}
use Rattle.plane_exact.proofs.sights.look_at_rings.Given as goal

-- what was told so far and what is told ahead make up all
abbrev pub invariant-loop-ring : goal.invariant-loop-ring
invariant-loop-ring l = record {
  fits : FitsWay l.way (ring_points (drop l.ring-index l.rings));
  told : joined_look l.look (look_at l.way (ring_edges (drop l.ring-index l.rings)) (ring_points (drop l.ring-index l.rings))) ≡ look_at l.way (ring_edges l.rings) (ring_points l.rings);
}
