use Rattle.std.proofs.Common.{◌≡◌, ◌++◌, length}
use Rattle.std.specs.List.{flat_map, AllByRecursion}
use Rattle.route_certificate.specs.Forms.{link_line, FitsLink}
use Rattle.route_certificate.proofs.table_lines.read_links.Given as goal

abbrev pub invariant-loop-link : goal.invariant-loop-link
invariant-loop-link l = (l.text ≡ flat_map link_line l.links.items ++ l.rest) × AllByRecursion (FitsLink l.nodes) l.links.items

abbrev pub decreases-loop-link : goal.decreases-loop-link
decreases-loop-link l = length l.rest
