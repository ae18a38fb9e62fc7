use Rattle.unit_sight.proofs.Ones.{IsNth}
use Rattle.unit_sight.proofs.words.nth_bit.Given as goal

abbrev pub invariant-loop-before : goal.invariant-loop-before
invariant-loop-before l = IsNth l.word l.at l._before
