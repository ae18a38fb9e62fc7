use Rattle.rule_reports.proofs.Adding.{on_ok}
use Rattle.venue_nodes.specs.Views.{find_place}
use Rattle.venue_nodes.proofs.Remarks.{elements_added}
use Rattle.venue_nodes.proofs.notes_on_places.note_elements.Goals as goal

pub returns-clause-adds : goal.returns-clause-adds
returns-clause-adds c = on_ok c.note_reference-2.result _ _ c.note_reference-2.ensures.adds (λ last.
    elements_added (find_place c.args.nodes.now) c.args.index c.args.row.now c.as_slice-between.result.now _ _ _ _ (c.makes_passage.ensures.0 c.if-not-makes_passage.false) c.as_slice-between.ensures c.in_ok-note_reference.ensures.adds c.in_ok-note_references.ensures.adds last)
