use Rattle.std.proofs.Common.{◌∙◌, map, ap}
use Rattle.venue_types.specs.declared.features.OccupantRow.{OccupantRow}
use Rattle.venue_types.specs.declared.link.Node.{Node}
use Rattle.venue_nodes.proofs.Counts.{few_places, few_closables, few_occupants}
use Rattle.venue_nodes.proofs.Assembling.{number_by, are_nodes, short_ids, short_list}
use Rattle.venue_nodes.specs.Views.{corner_ranges}
use Rattle.venue_nodes.proofs.Behind.{nodes_made, corners_fit, nodes_fit, ranges_made}
use Rattle.venue_nodes.proofs.nodes.Nodes.placed.Goals as goal

pub of-requires : goal.of-requires
of-requires c = short_ids (λ (node : Node). node.id) c.deref.result.now _ _ _ c.deref-2.ensures.value c.in_ok-ids_of.ensures (c.deref.ensures.value ∙ c.in_ok-list.ensures) (few_places c.args.features.now c.requires.few)

pub add_corners-requires-clause-placed : goal.add_corners-requires-clause-placed
add_corners-requires-clause-placed c = rw c.as_slice.ensures c.requires.units

pub add_corners-requires-clause-near : goal.add_corners-requires-clause-near
add_corners-requires-clause-near c = rw c.as_slice.ensures c.requires.near

pub add_corners-requires-clause-few : goal.add_corners-requires-clause-few
add_corners-requires-clause-few c = corners_fit c.args.features.now c.args.settings.now c.in_ok-list.list.items c.as_slice.result.now c.requires c.in_ok-list.ensures c.as_slice.ensures

pub of-requires-2 : goal.of-requires-2
of-requires-2 c = short_ids (λ (row : OccupantRow). row.id) c.as_slice-2.result.now _ _ _ c.deref-3.ensures.value c.in_ok-ids_of-2.ensures c.as_slice-2.ensures (few_occupants c.args.features.now c.requires.few)

pub of-requires-3 : goal.of-requires-3
of-requires-3 c = short_list c.deref-4.result.now _ (c.deref-4.ensures.value ∙ c.in_ok-closable_ids.ensures) (few_closables c.args.features.now c.requires.few)

pub invariant_of-result : goal.invariant_of-result
invariant_of-result c = record {
  few_nodes = nodes_fit c.args.features.now c.args.settings.now _ c.requires (nodes_made c.args.features.now c.args.settings.now c.in_ok-list.list.items _ c.as_slice.result.now c.in_ok-list.ensures c.as_slice.ensures c.in_ok-corners.ensures.nodes);
  few_closables = short_list c.in_ok-closable_ids.closable_ids.items _ c.in_ok-closable_ids.ensures (few_closables c.args.features.now c.requires.few);
}

pub returns-clause-nodes : goal.returns-clause-nodes
returns-clause-nodes c = are_nodes c.args.features.now c.args.settings.now _ (record {
  list = nodes_made c.args.features.now c.args.settings.now c.in_ok-list.list.items _ c.as_slice.result.now c.in_ok-list.ensures c.as_slice.ensures c.in_ok-corners.ensures.nodes;
  numbers = number_by _ _ _ (c.deref-2.ensures.value ∙ c.in_ok-ids_of.ensures ∙ ap (map (λ (node : Node). node.id)) (c.deref.ensures.value ∙ c.in_ok-list.ensures)) c.in_ok-numbers.ensures;
  occupants = number_by _ _ _ (c.deref-3.ensures.value ∙ c.in_ok-ids_of-2.ensures ∙ ap (map (λ (row : OccupantRow). row.id)) c.as_slice-2.ensures) c.in_ok-occupants.ensures;
  anchors = c.in_ok-anchors.ensures ∙ ap (map (λ (row : OccupantRow). row.anchor)) c.as_slice-3.ensures;
  closable_ids = c.in_ok-closable_ids.ensures;
  closable_numbers = number_by _ _ _ c.deref-4.ensures.value c.in_ok-closable_numbers.ensures;
})

pub returns-clause-corners : goal.returns-clause-corners
unfolding corner_ranges
returns-clause-corners c = record { ranges = ranges_made c.args.features.now c.args.settings.now c.in_ok-list.list.items _ c.as_slice.result.now c.in_ok-list.ensures c.as_slice.ensures c.in_ok-corners.ensures.ranges }
