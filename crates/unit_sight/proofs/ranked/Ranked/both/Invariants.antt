use Rattle.std.proofs.Common.{◌≡◌, ◌*◌}
use Rattle.unit_sight.specs.Words.{count_to, is_both}
use Rattle.unit_sight.proofs.ranked.Ranked.both.Given as goal

abbrev pub invariant-loop-w : goal.invariant-loop-w
invariant-loop-w l = l.both ≡ count_to (is_both l.self l.i l.mask) (64 * l.w)
