use Rattle.std.proofs.Common.{◌≡◌, take, filter_map}
use Rattle.route_search.specs.Reaches.{cost_of}
use Rattle.nearest_place.specs.Entries.{entry_at}
use Rattle.nearest_place.proofs.entries.entries_of.Given as goal

abbrev pub invariant-loop-node : goal.invariant-loop-node
invariant-loop-node l = l.entries.items ≡ filter_map (entry_at (cost_of l.reach)) (take l.node-index l.targets)
