use Rattle.std.proofs.Common.{◌+◌, ◌*◌, ◌<◌, ◌≤◌, ℕ, Option, length, subst, arith}
use Rattle.std.specs.Prelude.{IfSome}
use Rattle.change_journal.specs.Forms.{IsEndWithin, IsSlotsEnd}
use Rattle.change_journal.proofs.Parsing.{skipped_whole, skipped_last, broken_slots}
use Rattle.change_journal.proofs.records.skipped_at.Goals as goal

pub returns-then-next-end-clause-skipped : goal.returns-then-next-end-clause-skipped
returns-then-next-end-clause-skipped g c = λ bytes is.
    let to = subst (λ (o : Option ℕ). IsSlotsEnd 17 (c.args.gate + 3) o bytes) c.in-Some.is (c.in_ok-next.ensures.end bytes is) in
    let within = subst (λ (o : Option ℕ). IfSome o (IsEndWithin (c.args.gate + 3) (17 * 33554441) c.args.reader.now.length)) c.in-Some.is c.in_ok-next.ensures.within in
    let long = c.end-end.ensures.told bytes is in
    let fits : c.in-Some.next < length bytes = omega (arith, long) in
    skipped_whole c.args.gate c.in-Some.next c.args.worker bytes within.behind fits c.requires.worker (c.requires.head bytes is) to

pub returns-else-next-end-clause-skipped : goal.returns-else-next-end-clause-skipped
returns-else-next-end-clause-skipped g c = λ bytes is.
    let to = subst (λ (o : Option ℕ). IsSlotsEnd 17 (c.args.gate + 3) o bytes) c.in-Some.is (c.in_ok-next.ensures.end bytes is) in
    let long = c.end-end.ensures.told bytes is in
    let ends : length bytes ≤ c.in-Some.next = omega (arith, long) in
    skipped_last c.args.gate c.in-Some.next c.args.worker bytes ends c.requires.worker (c.requires.head bytes is) to

pub returns-in-None-clause-skipped : goal.returns-in-None-clause-skipped
returns-in-None-clause-skipped g c = λ bytes is.
    broken_slots c.args.gate c.args.worker bytes (c.requires.head bytes is) (subst (λ (o : Option ℕ). IsSlotsEnd 17 (c.args.gate + 3) o bytes) c.in-None.is (c.in_ok-next.ensures.end bytes is))
