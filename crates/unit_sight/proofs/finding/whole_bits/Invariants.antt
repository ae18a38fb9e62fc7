use Rattle.std.proofs.Common.{◌≡◌, true}
use Rattle.unit_sight.specs.Tables.{table_of}
use Rattle.unit_sight.specs.Finding.{asked}
use Rattle.unit_sight.proofs.finding.whole_bits.Given as goal

abbrev pub invariant-loop-i : goal.invariant-loop-i
invariant-loop-i l = l.bits ≡ table_of l.size (asked (λ a b. true) l.i 0)
