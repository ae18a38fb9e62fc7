use Rattle.std.proofs.Common.{◌≡◌, ◌≤◌, ◌*◌, take}
use Rattle.std.specs.Prelude.{sum_by}
use Rattle.venue_nodes.specs.Crowds.{square_of}
use Rattle.venue_nodes.specs.Rows.{row_list, unit_indexes}
use Rattle.venue_nodes.proofs.Sights.{sights}
use Rattle.venue_nodes.proofs.limits.sight_passes.Given as goal

abbrev pub invariant-loop-w : goal.invariant-loop-w
invariant-loop-w l = (l.sum ≡ sights l.features.units (take l.w (unit_indexes l.rows)) (take l.w (row_list l.rows))) × (l.sum ≤ sum_by square_of (take l.w (row_list l.rows)) * 1000000)
