use Rattle.std.proofs.Common.{◌≡◌, ◌≤◌, ◌++◌, length}
use Rattle.std.specs.List.{flat_map, AllByRecursion}
use Rattle.route_certificate.specs.Forms.{node_line, FitsId}
use Rattle.route_certificate.proofs.table_lines.read_nodes.Given as goal

abbrev pub invariant-loop-rest : goal.invariant-loop-rest
invariant-loop-rest l = record {
  parts : l.text ≡ flat_map node_line l.nodes.items ++ l.rest;
  fit : AllByRecursion FitsId l.nodes.items;
  count : length l.nodes.items ≤ 400000;
}

abbrev pub decreases-loop-rest : goal.decreases-loop-rest
decreases-loop-rest l = length l.rest
