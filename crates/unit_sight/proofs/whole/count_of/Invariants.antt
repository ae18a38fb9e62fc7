use Rattle.std.proofs.Common.{◌≡◌, ◌*◌, get_or, false}
use Rattle.unit_sight.specs.Words.{count_to}
use Rattle.unit_sight.proofs.whole.count_of.Given as goal

abbrev pub invariant-loop-w : goal.invariant-loop-w
invariant-loop-w l = l.count ≡ count_to (λ j. get_or l.mask j false) (64 * l.w)
