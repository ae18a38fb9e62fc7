use Rattle.link_graph.specs.Cores.{network_in}
use Rattle.link_graph.specs.Marking.{marked}
use Rattle.link_graph.proofs.AskingDoors.{free_way}
use Rattle.link_graph.proofs.link_facts.is_way_free.Goals as goal

pub returns : goal.returns
unfolding network_in marked
returns c = free_way c.args.core.now c.args.marks.now c.args.profile c.args.via c.is_marked.result c.requires.sound c.requires.way c.is_marked.ensures
