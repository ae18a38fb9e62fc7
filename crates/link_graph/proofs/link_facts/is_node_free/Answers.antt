use Rattle.std.proofs.Common.{None, Some, arith}
use Rattle.link_graph.specs.Cores.{network_in}
use Rattle.link_graph.specs.Marking.{marked}
use Rattle.link_graph.proofs.AskingDoors.{door_number, number_marked, free_by_number, free_without_number}
use Rattle.link_graph.proofs.link_facts.is_node_free.Goals as goal

pub index-requires : goal.index-requires
unfolding network_in
index-requires c = let count = c.requires.sound.doors.count in omega (arith, count)

pub is_marked-requires-clause-number : goal.is_marked-requires-clause-number
unfolding network_in
is_marked-requires-clause-number c =
    let number = door_number c.args.core.now c.args.n c.index.result.now (Some c.in-Some.k) c.requires.sound c.requires.node c.index.ensures c.in-Some.is in
    number_marked c.args.core.now c.args.n c.in-Some.k _ number c.requires.marks

pub returns-in-Some : goal.returns-in-Some
unfolding network_in marked
returns-in-Some c =
    let number = door_number c.args.core.now c.args.n c.index.result.now (Some c.in-Some.k) c.requires.sound c.requires.node c.index.ensures c.in-Some.is in
    free_by_number c.args.core.now c.args.marks.now c.args.profile c.args.n c.in-Some.k c.is_marked.result c.requires.sound number c.is_marked.ensures

pub returns-in-None : goal.returns-in-None
unfolding network_in marked
returns-in-None c =
    let number = door_number c.args.core.now c.args.n c.index.result.now None c.requires.sound c.requires.node c.index.ensures c.in-None.is in
    free_without_number c.args.core.now c.args.marks.now c.args.profile c.args.n number
