use mathlib.Core.List.{IsPrefix}
use Rattle.rule_reports.specs.Passes.{Adds}
use Rattle.rule_reports.proofs.Adding.{Below}
use Rattle.venue_nodes.specs.Noting.{IsEmptyRow}
use Rattle.venue_nodes.proofs.notes_on_places.note_openings.Given as goal

-- what the rows before add
abbrev pub invariant-loop-k : goal.invariant-loop-k
invariant-loop-k l = record {
  adds : Adds (Below IsEmptyRow l.rows l.k) l.initial.notes.items l.notes.items;
  begins : IsPrefix l.initial.notes.items l.notes.items;
}
