use Rattle.rule_reports.specs.Passes.{found}
use Rattle.rule_reports.proofs.Beginnings.{begins_more, begins_then}
use Rattle.venue_nodes.proofs.Remarks.{reference_step, references_end}
use Rattle.venue_nodes.specs.Views.{find_place}
use Rattle.venue_nodes.proofs.notes_on_places.note_references.Goals as goal

pub loop-place-preserved : goal.loop-place-preserved
loop-place-preserved c =
    record {
      adds = reference_step (find_place c.args.nodes.now) c.args.index c.args.property c.args.references.now c.loop-place.place _ c.node_of.result c.is_none-nowhere.result c.number.result c.note_at.result c.args.notes.now.items c.loop-place.notes.items c.add.new.places.items c.loop-place-test.true c.node_of.ensures c.is_none-nowhere.ensures c.number.ensures c.note_at.ensures c.in_ok-add.ensures.ok c.loop-place.invariant.adds;
      begins = begins_then c.args.notes.now.items c.loop-place.notes.items c.add.new.places.items c.loop-place.invariant.begins (begins_more c.loop-place.notes.items (found c.is_none-nowhere.result c.note_at.result) c.add.new.places.items c.in_ok-add.ensures.ok);
    }

pub returns-clause-adds : goal.returns-clause-adds
returns-clause-adds c = references_end (find_place c.args.nodes.now) c.args.index c.args.property c.args.references.now c.loop-place.place _ _ c.loop-place-test.false c.loop-place.invariant.adds
