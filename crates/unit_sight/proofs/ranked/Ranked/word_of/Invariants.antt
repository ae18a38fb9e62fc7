use Rattle.std.proofs.Common.{◌-◌, ◌*◌, ◌<◌, ◌≤◌, length}
use Rattle.unit_sight.specs.Tables.{joins}
use Rattle.unit_sight.specs.Words.{count_to, words_in}
use Rattle.unit_sight.proofs.ranked.Ranked.word_of.Given as goal

abbrev pub invariant-loop-w : goal.invariant-loop-w
invariant-loop-w l = record {
  within : l.w < words_in (length l.self);
  front : count_to (joins l.self l.i) (64 * l.w) ≤ l.k;
}

abbrev pub decreases-loop-w : goal.decreases-loop-w
decreases-loop-w l = words_in (length l.self) - l.w
