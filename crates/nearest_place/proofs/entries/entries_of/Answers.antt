use Rattle.route_search.specs.Reaches.{cost_of}
use Rattle.nearest_place.specs.Entries.{entry_at}
use Rattle.nearest_place.proofs.EntryLemmas.{entries_more}
use Rattle.nearest_place.proofs.entries.entries_of.Goals as goal

pub loop-node-preserved : goal.loop-node-preserved
loop-node-preserved c =
    entries_more (entry_at (cost_of c.args.reach.now)) c.args.targets.now c.loop-node.node-index _ c.entry_of.result c.loop-node.entries.items c.add.new.entries.items
    c.loop-node-test.true c.loop-node.invariant c.entry_of.ensures c.in_ok-add.ensures
