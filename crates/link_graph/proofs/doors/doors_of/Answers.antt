use Rattle.venue_nodes.specs.Views.{find_closable}
use Rattle.link_graph.proofs.MadeDoors.{doors_joined, doors_all}
use Rattle.link_graph.proofs.doors.doors_of.Goals as goal

pub returns : goal.returns
returns c = λ settings are.
    let find = find_closable c.args.nodes.now in
    let places = doors_joined c.args.features.now find c.as_slice.result.now c.as_slice-2.result.now c.as_slice-3.result.now c.as_slice-4.result.now
    c.new-doors.result.items c.add_doors.new.doors.items c.add_doors-2.new.doors.items c.add_doors-3.new.doors.items c.add_unit_doors.new.doors.items
    c.new-doors.ensures.items c.as_slice.ensures c.as_slice-2.ensures c.as_slice-3.ensures c.as_slice-4.ensures
    c.in_ok-add_doors.ensures c.in_ok-add_doors-2.ensures c.in_ok-add_doors-3.ensures c.in_ok-add_unit_doors.ensures in
    doors_all c.args.features.now settings c.args.nodes.now find c.add_unit_doors.new.doors.items c.add_corner_doors.new.doors.items c.as_slice-5.result.now are c.as_slice-5.ensures places c.in_ok-add_corner_doors.ensures
