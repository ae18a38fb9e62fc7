use Rattle.std.proofs.Common.{arith}
use Rattle.link_graph.specs.Cores.{network_in}
use Rattle.link_graph.proofs.AskingDoors.{facts_joined}
use Rattle.link_graph.proofs.AskingRanges.{link_range}
use Rattle.link_graph.proofs.link_facts.facts.Goals as goal

pub index-barred-requires : goal.index-barred-requires
unfolding network_in
index-barred-requires c =
    let within = (link_range c.args.core.now c.args.link.now c.requires.sound c.requires.there).via in
    let count = c.requires.sound.barred in
    omega (arith, within, count)

pub ends-requires-clause-node : goal.ends-requires-clause-node
unfolding network_in
ends-requires-clause-node c = (link_range c.args.core.now c.args.link.now c.requires.sound c.requires.there).from

pub ends-requires-2-clause-node : goal.ends-requires-2-clause-node
unfolding network_in
ends-requires-2-clause-node c = (link_range c.args.core.now c.args.link.now c.requires.sound c.requires.there).to

pub returns : goal.returns
unfolding network_in
returns c =
    facts_joined c.args.core.now c.args.link.now c.joined.result c.index-barred.result.now c.ends.result c.ends-2.result c.requires.sound c.requires.there
    c.index-barred.ensures c.ends.ensures c.ends-2.ensures c.joined.ensures
