use Rattle.venue_nodes.specs.Views.{find_place}
use Rattle.rule_reports.proofs.Beginnings.{begins_then}
use Rattle.venue_nodes.proofs.Remarks.{relationship_step, relationships_end}
use Rattle.venue_nodes.proofs.notes_on_places.note_relationships.Goals as goal

pub loop-k-preserved : goal.loop-k-preserved
loop-k-preserved c =
    record {
      adds = relationship_step (find_place c.args.nodes.now) c.args.rows.now c.loop-k.k c.index-rows-k.result _ c.loop-k.notes.items _ c.loop-k-test.true c.index-rows-k.is c.loop-k.invariant.adds c.in_ok-note_elements.ensures.adds;
      begins = begins_then c.args.notes.now.items c.loop-k.notes.items c.note_elements.new.notes.items c.loop-k.invariant.begins c.in_ok-note_elements.ensures.begins;
    }

pub returns-clause-adds : goal.returns-clause-adds
returns-clause-adds c = relationships_end (find_place c.args.nodes.now) c.args.rows.now c.loop-k.k _ _ c.loop-k-test.false c.loop-k.invariant.adds
