-- Slots, one after the other.
use Rattle.std.proofs.Common.{List, sym, subst}
use Rattle.std.specs.List.{flat_map}
use Rattle.std.proofs.lemmas.Result.{IfOk-weaker, on_err_weaker}
use Rattle.venue_types.specs.declared.files.Slot.{Slot}
use Rattle.change_journal.specs.Puts.{Puts, GivesUp}
use Rattle.change_journal.specs.Texts.{slot_text}
use Rattle.change_journal.proofs.Putting.{joined, given_up}
use Rattle.change_journal.proofs.bodies.+put_slots.Goals as goal

pub returns-clause-ok : goal.returns-clause-ok
returns-clause-ok g t c =
    let old = g.K.Disk.moments c.args.disk.now in
    let mid = g.K.Disk.moments c.put_slot.new.disk in
    let new = g.K.Disk.moments c.put_slots.new.disk in
    let place = c.args.place in
    let waiting = c.args.waiting.now.items in
    let next = c.in_ok-next.next in
    let later = c.put_slot.new.waiting.items in
    let last = c.put_slots.new.waiting.items in
    let head = slot_text c.in-Some.slot.now in
    let rest = flat_map slot_text c.in-Some.rest.now in
    IfOk-weaker _ (λ end. Puts next later end last rest mid new) (λ end. Puts place waiting end last (flat_map slot_text c.args.slots.now) old new)
    (λ end then. subst (λ (l : List Slot). Puts place waiting end last (flat_map slot_text l) old new) (sym c.in-Some.ensures.cases.0)
    (joined place waiting next later head end last rest old mid new c.in_ok-next.ensures.ok then)) c.put_slots.ensures.ok

pub returns-clause-err : goal.returns-clause-err
returns-clause-err g t c =
    let old = g.K.Disk.moments c.args.disk.now in
    let mid = g.K.Disk.moments c.put_slot.new.disk in
    let new = g.K.Disk.moments c.put_slots.new.disk in
    let place = c.args.place in
    let waiting = c.args.waiting.now.items in
    let next = c.in_ok-next.next in
    let later = c.put_slot.new.waiting.items in
    let head = slot_text c.in-Some.slot.now in
    on_err_weaker {Q = GivesUp place waiting old new} _ (λ gives. given_up place waiting next later head old mid new c.in_ok-next.ensures.ok gives)
    c.put_slots.ensures.err
