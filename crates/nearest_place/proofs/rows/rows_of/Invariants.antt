use Rattle.std.proofs.Common.{take}
use Rattle.nearest_place.specs.Entries.{AreRows}
use Rattle.nearest_place.proofs.rows.rows_of.Given as goal

abbrev pub invariant-loop-entry : goal.invariant-loop-entry
invariant-loop-entry l = AreRows l.reach (take l.entry-index l.entries) l.rows
