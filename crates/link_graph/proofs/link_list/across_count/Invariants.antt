use Rattle.std.proofs.Common.{◌≡◌, ◌≤◌, ◌*◌, ℕ, List, [], Some, cond, length, take}
use Rattle.std.specs.Prelude.{slice_get}
use Rattle.std.specs.List.{flat_map}
use Rattle.venue_nodes.specs.Rows.{row_list}
use Rattle.link_graph.specs.declared.parts.Crossing.{Crossing}
use Rattle.link_graph.specs.Cores.{links_across_from}
use Rattle.link_graph.proofs.link_list.across_count.Given as goal

-- the links from the members before are counted
abbrev pub invariant-loop-i : goal.invariant-loop-i
invariant-loop-i l = record {
  counts : (crossing : Crossing) (row : List ℕ) → slice_get l.core.crossings.items l.w ≡ Some crossing → slice_get (row_list l.core.rows) l.w ≡ Some row → l.count ≡ length (cond crossing.walked (flat_map (links_across_from l.core crossing row) (take l.i row)) []);
  few : l.count ≤ l.i * 4294967295;
}
