use mathlib.Core.List.{IsPrefix}
use Rattle.rule_reports.specs.Passes.{Adds}
use Rattle.rule_reports.proofs.Adding.{Below}
use Rattle.venue_nodes.specs.Noting.{LeavesElement}
use Rattle.venue_nodes.specs.Views.{find_place}
use Rattle.venue_nodes.proofs.notes_on_places.note_relationships.Given as goal

-- what the relationships before add
abbrev pub invariant-loop-k : goal.invariant-loop-k
invariant-loop-k l = record {
  adds : Adds (Below (LeavesElement (find_place l.nodes)) l.rows l.k) l.initial.notes.items l.notes.items;
  begins : IsPrefix l.initial.notes.items l.notes.items;
}
