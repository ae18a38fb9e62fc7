use Rattle.std.proofs.Common.{◌<◌, length, arith}
use Rattle.std.proofs.lemmas.Option.{slice_get-get_or}
use Rattle.exact_json.specs.View.{tree_view}
use Rattle.rule_reports.proofs.Adding.{Adds-start, Adds-step, Adds-end, Adds-found}
use Rattle.imdf_read.proofs.NoteRules.{Due, adds_note, notes_by}
use Rattle.imdf_read.proofs.note_rules.judge_kinds.Goals as goal

pub loop-kind-init : goal.loop-kind-init
loop-kind-init c = Adds-start _ _ _

pub loop-kind-preserved : goal.loop-kind-preserved
loop-kind-preserved c =
    let kinds = c.args.kinds.now in
    let f = c.args.place.file in
    let i = c.args.place.index in
    let k = c.loop-kind.kind-index in
    let item = tree_view c.args.item.now in
    let within : k < length kinds = omega arith in
    Adds-step (λ n kind. Due f i item kind) kinds k _ (slice_get-get_or kinds k _ within) c.loop-kind.invariant
    (adds_note _ f i item c.is_due-due.result c.note.result c.loop-kind.notes.items c.add.new.places.items c.is_due-due.ensures c.note.ensures
    (λ P into back. Adds-found P c.is_due-due.result c.note.result c.loop-kind.notes.items c.add.new.places.items c.in_ok-add.ensures.ok into back))

pub returns : goal.returns
returns c = notes_by c.args.kinds.now c.args.place.file c.args.place.index (tree_view c.args.item.now) c.args.notes.now.items c.loop-kind.notes.items
    (Adds-end _ c.args.kinds.now c.loop-kind.kind-index c.loop-kind-test.false c.loop-kind.invariant)
