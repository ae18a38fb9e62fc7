use Rattle.std.proofs.Common.{◌∷◌, ◌↔◌, drop, Contains}
use Rattle.plane_exact.specs.Figure.{edges_from}
use Rattle.plane_trees.specs.Trees.{CrossesSome}
use Rattle.plane_trees.proofs.run_crossings.crosses_line.Given as goal

-- the edges ahead decide
abbrev pub invariant-loop-d : goal.invariant-loop-d
invariant-loop-d l = record {
  of_line : Contains (l.fn.start ∷ l.rest) l.c;
  ahead : CrossesSome l.a l.b (edges_from l.c (drop l.d-index l.rest)) ↔ CrossesSome l.a l.b (edges_from l.fn.start l.rest);
}
