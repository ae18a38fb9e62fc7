use Rattle.std.proofs.Common.{◌∷◌, ◌↔◌, drop}
use Rattle.plane_exact.specs.Figure.{AllNearby, edges_from, IsNearSome}
use Rattle.plane_exact.proofs.borders.near_chain.Given as goal

-- the edges ahead decide, since none of those behind is near
abbrev pub invariant-loop-b : goal.invariant-loop-b
invariant-loop-b l = record {
  close : AllNearby (l.p ∷ l.a ∷ drop l.b-index l.rest);
  ahead : IsNearSome l.p l.t (edges_from l.a (drop l.b-index l.rest)) ↔ IsNearSome l.p l.t (edges_from l.fn.start l.rest);
}
