use Rattle.std.proofs.Common.{sym, ap, arith}
use Rattle.link_graph.specs.Cores.{network_in, ends_in, asks_of}
use Rattle.link_graph.proofs.AskingDoors.{door_there}
use Rattle.link_graph.proofs.link_facts.ends.Goals as goal

pub index-requires : goal.index-requires
unfolding network_in
index-requires c = let count = c.requires.sound.doors.count in omega (arith, count)

pub returns : goal.returns
unfolding network_in ends_in
returns c = ap asks_of (sym (door_there c.args.core.now c.args.n c.index.result.now c.requires.sound c.requires.node c.index.ensures))
