use Rattle.std.proofs.Common.{◌≡◌, true, length}
use Rattle.unit_sight.specs.Tables.{table_of}
use Rattle.unit_sight.specs.Finding.{asked}
use Rattle.unit_sight.proofs.finding.join_front.Given as goal

abbrev pub invariant-loop-j : goal.invariant-loop-j
invariant-loop-j l = record {
  size : length l.bits ≡ length l.fn.bits;
  told : l.fn.bits ≡ table_of (length l.fn.bits) (asked (λ a b. true) l.i 0) → l.bits ≡ table_of (length l.fn.bits) (asked (λ a b. true) l.i l.j);
}
