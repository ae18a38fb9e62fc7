use Rattle.std.proofs.Common.{◌+◌, ◌≤◌, length, subst, arith}
use Rattle.change_journal.specs.Forms.{IsSlotForm, IsFormWithin}
use Rattle.change_journal.specs.declared.slots.SlotForm.{SlotForm}
use Rattle.change_journal.proofs.Parsing.{absent_slot, held_slot}
use Rattle.change_journal.proofs.slots.slot_end.Goals as goal

pub returns-in-Absent-clause-end : goal.returns-in-Absent-clause-end
returns-in-Absent-clause-end g c = λ bytes is. absent_slot c.args.place bytes (subst (λ (f : SlotForm). IsSlotForm c.args.place f bytes) c.in-Absent.is (c.in_ok-form_at.ensures.form bytes is))

pub returns-in-Held-clause-end : goal.returns-in-Held-clause-end
returns-in-Held-clause-end g c = λ bytes is.
    let within = subst (λ (f : SlotForm). IsFormWithin c.args.place c.args.reader.now.length f) c.in-Held.is c.in_ok-form_at.ensures.within in
    let long = c.in_ok-form_at.ensures.whole bytes is in
    let fits : c.args.place + 9 + c.in-Held.count ≤ length bytes = omega (arith, long, within.1) in
    held_slot c.args.place c.in-Held.count bytes within.0 fits (subst (λ (f : SlotForm). IsSlotForm c.args.place f bytes) c.in-Held.is (c.in_ok-form_at.ensures.form bytes is))

pub returns-in-Neither-clause-end : goal.returns-in-Neither-clause-end
returns-in-Neither-clause-end g c = λ bytes is. subst (λ (f : SlotForm). IsSlotForm c.args.place f bytes) c.in-Neither.is (c.in_ok-form_at.ensures.form bytes is)
