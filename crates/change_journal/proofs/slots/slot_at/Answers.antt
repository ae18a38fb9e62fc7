use Rattle.change_journal.proofs.Looking.{then_looks}
use Rattle.std.proofs.Common.{◌≡◌, ◌+◌, ℕ, List, sym, ◌∙◌, subst}
use Rattle.std.specs.Prelude.{Ok}
use Rattle.std.proofs.lemmas.Result.{IfOk-at_ok}
use Rattle.venue_types.specs.declared.files.Slot.TheVariants.{Held}
use Rattle.change_journal.specs.Forms.{IsSlotForm}
use Rattle.change_journal.specs.Looks.{Gives, Spans}
use Rattle.change_journal.specs.Texts.{slot_text}
use Rattle.change_journal.specs.declared.slots.SlotForm.{SlotForm}
use Rattle.change_journal.specs.declared.slots.SlotForm.TheVariants as form
use Rattle.change_journal.proofs.Parsing.{held_text}
use Rattle.change_journal.proofs.slots.slot_at.Goals as goal

pub returns-in_err-file-in-Ok-Held-clause-looks : goal.returns-in_err-file-in-Ok-Held-clause-looks
returns-in_err-file-in-Ok-Held-clause-looks g c = then_looks c.form_at.ensures.looks c.in_err-file-in-Ok-Held.ensures.looks

pub returns-in_ok-file-in-Ok-Held-clause-looks : goal.returns-in_ok-file-in-Ok-Held-clause-looks
returns-in_ok-file-in-Ok-Held-clause-looks g c = then_looks c.form_at.ensures.looks c.in_ok-file-in-Ok-Held.ensures.looks

pub returns-in-Ok-Absent-clause-slot : goal.returns-in-Ok-Absent-clause-slot
returns-in-Ok-Absent-clause-slot g c =
    let old = g.K.Disk.moments c.args.reader.now.disk in
    let it : c.form_at.result ≡ Ok form.Absent = cc in
    IfOk-at_ok (λ (f : SlotForm). Gives old (IsSlotForm c.args.place f)) it c.form_at.ensures.form

pub returns-in-Ok-Neither-clause-slot : goal.returns-in-Ok-Neither-clause-slot
returns-in-Ok-Neither-clause-slot g c =
    let old = g.K.Disk.moments c.args.reader.now.disk in
    let it : c.form_at.result ≡ Ok form.Neither = cc in
    IfOk-at_ok (λ (f : SlotForm). Gives old (IsSlotForm c.args.place f)) it c.form_at.ensures.form

pub returns-in_ok-file-in-Ok-Held-clause-slot : goal.returns-in_ok-file-in-Ok-Held-clause-slot
returns-in_ok-file-in-Ok-Held-clause-slot g c = λ bytes is.
    let old = g.K.Disk.moments c.args.reader.now.disk in
    let place = c.args.place in
    let count = c.in-Ok-Held.count in
    let file = c.in_ok-file-in-Ok-Held.file.items in
    let it : c.form_at.result ≡ Ok (form.Held count) = cc in
    let head = IfOk-at_ok (λ (f : SlotForm). Gives old (IsSlotForm place f)) it c.form_at.ensures.form bytes is in
    let behind = c.in_ok-file-in-Ok-Held.ensures.bytes bytes (c.in-Ok-Held.ensures.told ∙ is) in
    subst (λ (l : List ℕ). Spans place (place + 9 + count) (slot_text (Held l)) bytes) (sym c.from_vec.ensures)
    (held_text place count file bytes c.in_ok-file-in-Ok-Held.ensures.size head behind)
