use Rattle.std.proofs.Common.{◌≡◌, ◌+◌, ◌<◌, length, slice_index_or, ℕ, All}
use Rattle.left_right.specs.Sides.{view}
use Rattle.board_copies.specs.Rules.{whole}
use Rattle.board_copies.specs.Stamps.{entries_of}
use Rattle.shared_hall.specs.Offices.{parts_of, AreNumbered, IsNew}
use Rattle.shared_hall.proofs.office.start.passes_of.Given as goal

abbrev pub invariant-loop-reader : goal.invariant-loop-reader
invariant-loop-reader g l =
    ((k : ℕ) (d : _) → k < length l.readers.items → view (slice_index_or l.readers.items k d).place ≡ whole (entries_of l.held.stamp) g.N.HallName.book)
    × All (IsNew (entries_of l.held.stamp)) l.passes.items
    × (length l.passes.items + length l.readers.items ≡ length l.initial.readers.items)
    × (l.worker ≡ length l.passes.items + 1)
    × AreNumbered 1 l.passes.items
    × (parts_of l.passes.items + l.rest.parts ≡ l.initial.rest.parts)
    × (l.rest.amount ≡ 0)
    × (length l.readers.items < l.rest.parts)

abbrev pub decreases-loop-reader : goal.decreases-loop-reader
decreases-loop-reader g l = length l.readers.items
