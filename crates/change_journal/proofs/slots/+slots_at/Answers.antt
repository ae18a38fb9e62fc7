use Rattle.change_journal.proofs.Looking.{then_looks}
use Rattle.std.proofs.Common.{◌<◌, ◌-◌, Option, drop, subst, arith}
use Rattle.std.specs.Prelude.{IfSome}
use Rattle.std.proofs.lemmas.Result.{IfOk-weaker}
use Rattle.venue_hall.specs.Records.{IsWithinLimit}
use Rattle.change_journal.specs.Forms.{AreKeptSlots, IsKeptSlot}
use Rattle.change_journal.specs.declared.slots.KeptSlot.{KeptSlot}
use Rattle.change_journal.proofs.Parsing.{kept_on, no_first}
use Rattle.change_journal.proofs.slots.+slots_at.Goals as goal

pub returns-in_ok-push-in-Some-clause-looks : goal.returns-in_ok-push-in-Some-clause-looks
returns-in_ok-push-in-Some-clause-looks g t c = then_looks c.in_ok-kept.ensures.looks c.slots_at.ensures.looks

pub returns-in_ok-push-in-Some-clause-slots : goal.returns-in_ok-push-in-Some-clause-slots
returns-in_ok-push-in-Some-clause-slots g t c =
    let old = g.K.Disk.moments c.args.reader.now.disk in
    let mid = g.K.Disk.moments c.slot_at.new.reader.disk in
    let place = c.args.place in
    let count = c.args.count in
    let kept = c.in-Some.kept in
    let earlier = c.args.slots.now.items in
    let between = c.push.new.self.items in
    let slots = c.slots_at.new.slots.items in
    let some : 0 < count = omega arith in
    let limit = subst (λ (o : Option KeptSlot). IfSome o (λ k. IsWithinLimit k.slot)) c.in-Some.is c.in_ok-kept.ensures.limit in
    IfOk-weaker _ (AreKeptSlots (count - 1) kept.next between slots mid) (AreKeptSlots count place earlier slots old)
    (λ end more. kept_on count place kept earlier between slots old mid end some limit
    (λ bytes is. subst (λ (o : Option KeptSlot). IsKeptSlot place o bytes) c.in-Some.is (c.in_ok-kept.ensures.slot bytes is))
    c.in_ok-push-in-Some.ensures.items c.in_ok-kept.ensures.told more) c.slots_at.ensures.slots

pub returns-in-None-clause-slots : goal.returns-in-None-clause-slots
returns-in-None-clause-slots g t c = λ bytes is.
    let some : 0 < c.args.count = omega arith in
    no_first c.args.count (drop c.args.place bytes) some
    (subst (λ (o : Option KeptSlot). IsKeptSlot c.args.place o bytes) c.in-None.is (c.in_ok-kept.ensures.slot bytes is))
