use Rattle.std.proofs.Common.{ℕ, ◌≡◌, ◌+◌, ◌*◌, ◌<◌, ◌≤◌, false}
use Rattle.unit_sight.specs.Words.{is_next}
use Rattle.unit_sight.proofs.ranked.Ranked.next.Given as goal

abbrev pub invariant-loop-w : goal.invariant-loop-w
invariant-loop-w l = record {
  low : l.low < 64;
  behind : l.from ≤ 64 * l.w + l.low;
  none : (m : ℕ) → m < 64 * l.w + l.low → is_next l.self l.i l.known l.from m ≡ false;
}
