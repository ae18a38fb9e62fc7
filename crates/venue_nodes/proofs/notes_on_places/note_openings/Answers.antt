use Rattle.rule_reports.specs.Passes.{found}
use Rattle.rule_reports.proofs.Beginnings.{begins_more, begins_then}
use Rattle.venue_nodes.proofs.Remarks.{opening_step, openings_end}
use Rattle.venue_nodes.proofs.notes_on_places.note_openings.Goals as goal

pub loop-k-preserved : goal.loop-k-preserved
loop-k-preserved c =
    record {
      adds = opening_step c.args.rows.now c.loop-k.k c.index-rows-k.result c.is_empty.result c.note_at.result _ c.loop-k.notes.items _ c.loop-k-test.true c.index-rows-k.is c.is_empty.ensures.0 c.is_empty.ensures.1 c.note_at.ensures c.in_ok-add.ensures.ok c.loop-k.invariant.adds;
      begins = begins_then c.args.notes.now.items c.loop-k.notes.items c.add.new.places.items c.loop-k.invariant.begins (begins_more c.loop-k.notes.items (found c.is_empty.result c.note_at.result) c.add.new.places.items c.in_ok-add.ensures.ok);
    }

pub returns-clause-adds : goal.returns-clause-adds
returns-clause-adds c = openings_end c.args.rows.now c.loop-k.k _ _ c.loop-k-test.false c.loop-k.invariant.adds
