use Rattle.std.proofs.Common.{◌≡◌, ◌-◌, ◌<◌, ◌≤◌, length, slice_index_or, ℕ}
use Rattle.left_right.specs.Sides.{view}
use Rattle.board_copies.specs.Rules.{Knows}
use Rattle.shared_hall.proofs.office.start.make_readers.Given as goal

abbrev pub invariant-loop-writer : goal.invariant-loop-writer
invariant-loop-writer l =
    (l.writer.desk.shown.value ≡ l.initial.writer.desk.shown.value)
    × Knows (view l.writer.desk.place) l.writer.desk.shown.value
    × ((k : ℕ) (d : _) → k < length l.readers.items → Knows (view (slice_index_or l.readers.items k d).place) l.initial.writer.desk.shown.value)
    × (1 ≤ length l.readers.items)
    × (length l.readers.items ≤ l.workers)

abbrev pub decreases-loop-writer : goal.decreases-loop-writer
decreases-loop-writer l = l.workers - length l.readers.items
