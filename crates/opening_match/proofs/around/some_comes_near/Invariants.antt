use Rattle.std.proofs.Common.{take}
use Rattle.std.specs.Prelude.{Contains}
use Rattle.opening_match.specs.declared.edges.Edge.{Edge}
use Rattle.opening_match.specs.declared.entries.Entry.{Entry}
use Rattle.opening_match.specs.Edges.{IsAtEdge}
use Rattle.opening_match.specs.Entries.{start_of}
use Rattle.opening_match.specs.Extents.{IsInBox}
use Rattle.opening_match.proofs.around.some_comes_near.Given as goal

-- no entry in the box is at one of the edges before
abbrev pub invariant-loop-edge : goal.invariant-loop-edge
invariant-loop-edge l = (e : Entry) → IsInBox l.extent (start_of e) → (edge : Edge) → Contains (take l.edge-index l.sought.edges.now) edge → ¬ IsAtEdge l.sought.tolerance e edge
