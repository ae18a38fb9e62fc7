use Rattle.change_journal.proofs.Looking.{then_looks}
use Rattle.std.proofs.Common.{◌<◌, ◌-◌, ℕ, Option, drop, ◌∙◌, subst, arith}
use Rattle.std.proofs.lemmas.Result.{IfOk-weaker}
use Rattle.change_journal.specs.Forms.{IsSlotEnd, IsSlotsEnd}
use Rattle.change_journal.specs.Looks.{Gives}
use Rattle.change_journal.proofs.Parsing.{slots_on, no_first}
use Rattle.change_journal.proofs.slots.+slots_end.Goals as goal

pub returns-in-Some-clause-looks : goal.returns-in-Some-clause-looks
returns-in-Some-clause-looks g t c = then_looks c.in_ok-next.ensures.looks c.slots_end.ensures.looks

pub returns-in-Some-clause-end : goal.returns-in-Some-clause-end
returns-in-Some-clause-end g t c =
    let old = g.K.Disk.moments c.args.reader.now.disk in
    let mid = g.K.Disk.moments c.slot_end.new.reader.disk in
    let place = c.args.place in
    let count = c.args.count in
    let some : 0 < count = omega arith in
    IfOk-weaker _ (λ end. Gives mid (IsSlotsEnd (count - 1) c.in-Some.next end)) (λ end. Gives old (IsSlotsEnd count place end))
    (λ end more. λ bytes is. slots_on count place c.in-Some.next bytes end some (subst (λ (o : Option ℕ). IsSlotEnd c.args.place o bytes) c.in-Some.is (c.in_ok-next.ensures.end bytes is)) (more bytes (c.in_ok-next.ensures.told ∙ is))) c.slots_end.ensures.end

pub returns-in-None-clause-end : goal.returns-in-None-clause-end
returns-in-None-clause-end g t c = λ bytes is.
    let some : 0 < c.args.count = omega arith in
    no_first c.args.count (drop c.args.place bytes) some (subst (λ (o : Option ℕ). IsSlotEnd c.args.place o bytes) c.in-None.is (c.in_ok-next.ensures.end bytes is))
