use Rattle.std.proofs.Common.{◌≤◌}
use Rattle.opening_match.specs.Rows.{AreRowsBelow}
use Rattle.opening_match.proofs.Counting.{AreCounted}
use Rattle.opening_match.proofs.touch_rows.matches_by.Given as goal

-- the counts of the units before, none of which is full, and their touches, unless they are too many
abbrev pub invariant-loop-place : goal.invariant-loop-place
invariant-loop-place l =
    AreCounted l.tolerance l.openings l.units l.place l.walked l.counts.items × (l.walked ≤ 20000000 → AreRowsBelow l.tolerance l.openings l.units l.place l.rows.items)
