use Rattle.std.proofs.Common.{◌∷◌, ◌↔◌, drop, Contains}
use Rattle.plane_exact.specs.Figure.{edges_from}
use Rattle.plane_trees.specs.Trees.{CrossEachOther}
use Rattle.plane_trees.proofs.run_crossings.lines_cross.Given as goal

-- the edges ahead decide
abbrev pub invariant-loop-b : goal.invariant-loop-b
invariant-loop-b l = record {
  of_line : Contains (l.fn.start ∷ l.rest) l.a;
  ahead : CrossEachOther (edges_from l.a (drop l.b-index l.rest)) (edges_from l.fn.other l.more) ↔ CrossEachOther (edges_from l.fn.start l.rest) (edges_from l.fn.other l.more);
}
