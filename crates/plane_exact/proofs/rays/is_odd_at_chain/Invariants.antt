use Rattle.std.proofs.Common.{◌≡◌, ◌∷◌, ◌+◌, ◌%◌, cond, drop}
use Rattle.plane_exact.specs.Figure.{AllNearby, edges_from, crossings}
use Rattle.plane_exact.proofs.rays.is_odd_at_chain.Given as goal

-- what was met so far and what is met ahead make up all
abbrev pub invariant-loop-b : goal.invariant-loop-b
invariant-loop-b l = record {
  close : AllNearby (l.p ∷ l.a ∷ drop l.b-index l.rest);
  parity : (cond l.odd 1 0 + crossings l.p (edges_from l.a (drop l.b-index l.rest))) % 2 ≡ crossings l.p (edges_from l.fn.start l.rest) % 2;
}
