use Rattle.std.proofs.Common.{◌≡◌, ◌+◌, ◌*◌, length}
use Rattle.unit_sight.specs.Tables.{joins}
use Rattle.unit_sight.specs.Words.{count_to, words_in, AreFronts}
use Rattle.unit_sight.proofs.ranked.fill_row.Given as goal

abbrev pub invariant-loop-w : goal.invariant-loop-w
invariant-loop-w l = record {
  fronts : AreFronts l.bits l.fronts (l.i * words_in (length l.bits) + l.w);
  front : l.front ≡ count_to (joins l.bits l.i) (64 * l.w);
}
