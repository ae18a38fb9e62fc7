use Rattle.venue_nodes.proofs.Joining.{nodes_joined}
use Rattle.venue_nodes.proofs.node_rows.nodes_of.Goals as goal

pub add_nodes-requires : goal.add_nodes-requires
add_nodes-requires c = rw c.as_slice.ensures c.requires.amenities

pub add_nodes-requires-2 : goal.add_nodes-requires-2
add_nodes-requires-2 c = rw c.as_slice-2.ensures c.requires.anchors

pub add_nodes-requires-3 : goal.add_nodes-requires-3
add_nodes-requires-3 c = rw c.as_slice-3.ensures c.requires.openings

pub add_unit_nodes-requires : goal.add_unit_nodes-requires
add_unit_nodes-requires c = rw c.as_slice-4.ensures c.requires.units

pub returns : goal.returns
returns c =
    nodes_joined c.args.features.now c.new-made.result.items c.add_nodes.new.nodes.items c.add_nodes-2.new.nodes.items c.add_nodes-3.new.nodes.items c.add_unit_nodes.new.nodes.items _ _ _ _ c.as_slice.ensures c.as_slice-2.ensures c.as_slice-3.ensures c.as_slice-4.ensures c.new-made.ensures.items c.in_ok-add_nodes.ensures c.in_ok-add_nodes-2.ensures c.in_ok-add_nodes-3.ensures c.in_ok-add_unit_nodes.ensures
