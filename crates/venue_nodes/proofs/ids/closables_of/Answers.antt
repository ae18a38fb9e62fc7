use Rattle.venue_nodes.proofs.Joining.{closables_joined}
use Rattle.venue_nodes.proofs.ids.closables_of.Goals as goal

pub returns : goal.returns
returns c =
    closables_joined c.args.features.now c.new-ids.result.items c.add_ids.new.ids.items c.add_ids-2.new.ids.items c.add_ids-3.new.ids.items _ _ _ c.as_slice.ensures c.as_slice-2.ensures c.as_slice-3.ensures c.new-ids.ensures.items c.in_ok-add_ids.ensures c.in_ok-add_ids-2.ensures c.in_ok-add_ids-3.ensures
