use Rattle.std.proofs.Common.{map}
use Rattle.feature_rows.specs.Entries.{AreEntries}
use Rattle.feature_rows.proofs.index.entries_of.Given as goal

-- the entries of the rows before
abbrev pub invariant-loop-place : goal.invariant-loop-place
invariant-loop-place g l = AreEntries (map g.R.HasId.id_of l.rows) l.place l.entries.items
