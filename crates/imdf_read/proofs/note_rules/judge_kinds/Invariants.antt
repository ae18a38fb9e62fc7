use Rattle.exact_json.specs.View.{tree_view}
use Rattle.rule_reports.specs.Passes.{Adds}
use Rattle.rule_reports.proofs.Adding.{Below}
use Rattle.imdf_read.proofs.NoteRules.{Due}
use Rattle.imdf_read.proofs.note_rules.judge_kinds.Given as goal

-- what the kinds before add
abbrev pub invariant-loop-kind : goal.invariant-loop-kind
invariant-loop-kind l = Adds (Below (λ k kind. Due l.place.file l.place.index (tree_view l.item) kind) l.kinds l.kind-index) l.initial.notes.items l.notes.items
