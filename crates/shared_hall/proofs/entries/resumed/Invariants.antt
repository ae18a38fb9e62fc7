use Rattle.std.proofs.Common.{◌≡◌, ◌++◌, length}
use Rattle.std.specs.Arc.{arc_value}
use Rattle.std.specs.Vec.Iter.{into_iter_items, into_iter_len}
use Rattle.board_copies.specs.Stamps.{entries_of}
use Rattle.shared_hall.proofs.entries.resumed.Given as goal

abbrev pub invariant-loop-entry : goal.invariant-loop-entry
invariant-loop-entry l =
    (entries_of l.history.stamp ++ into_iter_items l.entry-iterator ≡ l.fn.entries.items)
    × (l.history.version.settings ≡ arc_value l.fn.settings)
    × (into_iter_len l.entry-iterator ≡ length (into_iter_items l.entry-iterator))
