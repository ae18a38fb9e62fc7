use Rattle.link_graph.specs.Cores.{network_in}
use Rattle.link_graph.proofs.AskingRanges.{link_range}
use Rattle.link_graph.proofs.link_facts.is_free.Goals as goal

pub is_way_free-requires-clause-way : goal.is_way_free-requires-clause-way
unfolding network_in
is_way_free-requires-clause-way c = (link_range c.args.core.now c.args.link.now c.requires.sound c.requires.there).via

pub is_node_free-requires-clause-node : goal.is_node_free-requires-clause-node
unfolding network_in
is_node_free-requires-clause-node c = (link_range c.args.core.now c.args.link.now c.requires.sound c.requires.there).from

pub is_node_free-requires-then-is_node_free-clause-node : goal.is_node_free-requires-then-is_node_free-clause-node
unfolding network_in
is_node_free-requires-then-is_node_free-clause-node c = (link_range c.args.core.now c.args.link.now c.requires.sound c.requires.there).to
