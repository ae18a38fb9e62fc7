use mathlib.Core.List.{IsPrefix}
use Rattle.rule_reports.specs.Passes.{Adds}
use Rattle.rule_reports.proofs.Adding.{Below}
use Rattle.venue_nodes.specs.Noting.{LacksNode}
use Rattle.venue_nodes.specs.Views.{find_place}
use Rattle.venue_nodes.proofs.notes_on_places.note_references.Given as goal

-- what the references before add
abbrev pub invariant-loop-place : goal.invariant-loop-place
invariant-loop-place l = record {
  adds : Adds (Below (LacksNode (find_place l.nodes) l.index l.property) l.references l.place) l.initial.notes.items l.notes.items;
  begins : IsPrefix l.initial.notes.items l.notes.items;
}
