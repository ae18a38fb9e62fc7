use Rattle.std.proofs.Common.{◌≡◌, ◌≤◌, ◌*◌, ◌^◌}
use Rattle.geo_decimal.proofs.digits.with_zeros.Given as goal

abbrev pub invariant-loop-zeros : goal.invariant-loop-zeros
invariant-loop-zeros l = record { value : l.value * 10 ^ l.zeros ≡ l.start * 10 ^ l.count; within : l.value ≤ 180000000000 }

abbrev pub decreases-loop-zeros : goal.decreases-loop-zeros
decreases-loop-zeros l = l.zeros
