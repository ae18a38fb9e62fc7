use Rattle.std.proofs.Common.{◌≡◌, ℕ, length, Some}
use Rattle.std.specs.Prelude.{slice_get}
use Rattle.route_answers.specs.declared.starts.AreaStart.{AreaStart}
use Rattle.route_answers.specs.Placing.{IsStart, rows_before}
use Rattle.route_answers.proofs.starts.row_starts.Given as goal

abbrev pub invariant-loop-w : goal.invariant-loop-w
invariant-loop-w l = record {
  number : length l.units.items ≡ l.w;
  units : (w : ℕ) (start : AreaStart) → slice_get l.units.items w ≡ Some start → IsStart l.graph l.profile w start;
  rows : l.count ≡ rows_before l.graph l.profile l.w;
}
