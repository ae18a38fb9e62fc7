use Rattle.std.proofs.Common.{◌≡◌, ◌+◌, ◌*◌, ◌<◌, ◌≤◌, ◌++◌, ℕ, List, Option, length, sym, ◌∙◌, ap, subst, arith}
use Rattle.std.specs.Prelude.{IfSome}
use Rattle.venue_types.specs.declared.files.Slot.{Slot}
use Rattle.venue_hall.specs.Records.{published}
use Rattle.change_journal.specs.Forms.{AreKeptSlots, IsEndWithin}
use Rattle.change_journal.specs.Places.{IsRecordAt}
use Rattle.change_journal.proofs.Parsing.{whole_publication, last_publication, broken_slots}
use Rattle.change_journal.proofs.records.published_at.Goals as goal

pub returns-then-next-end-clause-found : goal.returns-then-next-end-clause-found
returns-then-next-end-clause-found g c = λ bytes is.
    let gate = c.args.gate in
    let next = c.in-Some.next in
    let worker = c.args.worker in
    let keeps = subst (λ (o : Option ℕ). AreKeptSlots 17 (c.args.gate + 3) c.new-slots.result.items c.slots_at.new.slots.items (g.K.Disk.moments c.args.reader.now.disk) o)
    c.in-Some.is c.in_ok-next.ensures.slots in
    let within = subst (λ (o : Option ℕ). IfSome o (IsEndWithin (gate + 3) (17 * 33554441) c.args.reader.now.length)) c.in-Some.is c.in_ok-next.ensures.within in
    let long = c.end-end.ensures.told bytes is in
    let fits : next < length bytes = omega (arith, long) in
    let same : keeps.added ≡ c.from_vec-slots.result =
    sym (c.from_vec-slots.ensures ∙ keeps.longer ∙ ap (λ (l : List Slot). l ++ keeps.added) c.new-slots.ensures.items) in
    subst (λ (slots : List Slot). IsRecordAt gate next (record { worker = worker; act = published slots }) bytes) same
    (whole_publication gate next worker keeps.added bytes within.behind fits c.requires.worker (record { seventeen = keeps.so_many; within = keeps.within })
    (c.requires.head bytes is) (keeps.text bytes is))

pub returns-else-next-end-clause-found : goal.returns-else-next-end-clause-found
returns-else-next-end-clause-found g c = λ bytes is.
    let keeps = subst (λ (o : Option ℕ). AreKeptSlots 17 (c.args.gate + 3) c.new-slots.result.items c.slots_at.new.slots.items (g.K.Disk.moments c.args.reader.now.disk) o)
    c.in-Some.is c.in_ok-next.ensures.slots in
    let long = c.end-end.ensures.told bytes is in
    let ends : length bytes ≤ c.in-Some.next = omega (arith, long) in
    last_publication c.args.gate c.in-Some.next c.args.worker keeps.added bytes ends c.requires.worker (record { seventeen = keeps.so_many; within = keeps.within })
    (c.requires.head bytes is) (keeps.text bytes is)

pub returns-in-None-clause-found : goal.returns-in-None-clause-found
returns-in-None-clause-found g c = λ bytes is.
    let none = subst (λ (o : Option ℕ). AreKeptSlots 17 (c.args.gate + 3) c.new-slots.result.items c.slots_at.new.slots.items (g.K.Disk.moments c.args.reader.now.disk) o)
    c.in-None.is c.in_ok-next.ensures.slots in
    broken_slots c.args.gate c.args.worker bytes (c.requires.head bytes is) (none bytes is)
