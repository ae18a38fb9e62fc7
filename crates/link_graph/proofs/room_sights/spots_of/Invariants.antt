use Rattle.std.proofs.Common.{◌≡◌, map, take}
use Rattle.venue_nodes.specs.Views.{node_list}
use Rattle.link_graph.specs.Making.{spot_at}
use Rattle.link_graph.proofs.room_sights.spots_of.Given as goal

abbrev pub invariant-loop-m : goal.invariant-loop-m
invariant-loop-m l = l.spots.items ≡ map (spot_at (node_list l.nodes)) (take l.m-index l.row)
