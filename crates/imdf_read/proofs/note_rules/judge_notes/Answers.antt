use Rattle.std.proofs.Common.{◌∙◌, sym}
use Rattle.exact_json.specs.View.{tree_view}
use Rattle.rule_reports.proofs.Adding.{on_ok}
use Rattle.imdf_read.proofs.NoteRules.{feature_notes, no_notes}
use Rattle.imdf_read.proofs.note_rules.judge_notes.Goals as goal

pub returns-then-not-is_feature : goal.returns-then-not-is_feature
returns-then-not-is_feature c = no_notes c.args.place.file c.args.place.index (tree_view c.args.item.now) c.args.notes.now.items (sym c.is_feature.ensures ∙ c.if-not-is_feature.true)

pub returns : goal.returns
returns c =
    on_ok c.judge_kinds.result _ _ c.judge_kinds.ensures (λ adds.
    feature_notes c.args.place.file c.args.place.index (tree_view c.args.item.now) c.args.notes.now.items c.judge_kinds.new.notes.items (sym c.is_feature.ensures ∙ c.if-not-is_feature.false) adds)
