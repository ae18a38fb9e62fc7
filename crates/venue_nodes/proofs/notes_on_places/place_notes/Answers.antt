use Rattle.std.proofs.Common.{List, ℕ, subst}
use Rattle.venue_types.specs.declared.features.RelationshipRow.{RelationshipRow}
use Rattle.rule_reports.specs.Passes.{Adds}
use Rattle.rule_reports.proofs.Adding.{on_ok}
use Rattle.venue_nodes.specs.Noting.{LeaveElements, AreEmpty}
use Rattle.venue_nodes.specs.Views.{find_place}
use Rattle.venue_nodes.proofs.Remarks.{all_added}
use Rattle.venue_nodes.proofs.notes_on_places.place_notes.Goals as goal

pub returns-clause-adds : goal.returns-clause-adds
returns-clause-adds c = λ border_tol touches. on_ok c.note_openings.result _ _ c.note_openings.ensures.adds (λ last.
    all_added c.args.features.now border_tol c.args.touches.now c.args.nodes.now _ c.note_relationships.new.notes.items _ c.requires.places touches
    (subst (λ (rows : List RelationshipRow). Adds (LeaveElements (find_place c.args.nodes.now) rows) c.args.notes.now.items c.note_relationships.new.notes.items) c.as_slice.ensures c.in_ok-note_relationships.ensures.adds)
    (subst (λ (rows : List (List ℕ)). Adds (AreEmpty rows) c.note_relationships.new.notes.items c.note_openings.new.notes.items) c.as_slice-2.ensures last))
