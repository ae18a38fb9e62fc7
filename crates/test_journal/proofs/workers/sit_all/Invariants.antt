use Rattle.std.proofs.Common.{◌≡◌, ◌+◌, length}
use Rattle.shared_hall.specs.Offices.{parts_of}
use Rattle.test_journal.proofs.workers.sit_all.Given as goal

abbrev pub invariant-loop-pass : goal.invariant-loop-pass
invariant-loop-pass g l =
    (length l.seats.items + length l.passes.items ≡ length l.initial.passes.items)
    × (parts_of l.seats.items + parts_of l.passes.items ≡ parts_of l.initial.passes.items)

abbrev pub decreases-loop-pass : goal.decreases-loop-pass
decreases-loop-pass g l = length l.passes.items
