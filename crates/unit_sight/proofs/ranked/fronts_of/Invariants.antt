use Rattle.std.proofs.Common.{◌*◌, length}
use Rattle.unit_sight.specs.Words.{words_in, AreFronts}
use Rattle.unit_sight.proofs.ranked.fronts_of.Given as goal

abbrev pub invariant-loop-i : goal.invariant-loop-i
invariant-loop-i l = AreFronts l.bits l.fronts.items (l.i * words_in (length l.bits))
