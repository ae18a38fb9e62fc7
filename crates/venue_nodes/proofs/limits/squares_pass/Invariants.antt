use Rattle.std.proofs.Common.{◌≡◌, ◌≤◌, ◌*◌, take}
use Rattle.std.specs.Prelude.{sum_by}
use Rattle.venue_nodes.specs.Crowds.{square_of}
use Rattle.venue_nodes.specs.Rows.{row_list}
use Rattle.venue_nodes.proofs.limits.squares_pass.Given as goal

abbrev pub invariant-loop-w : goal.invariant-loop-w
invariant-loop-w l = (l.sum ≡ sum_by square_of (take l.w (row_list l.rows))) × (l.sum ≤ l.w * 16777216)
