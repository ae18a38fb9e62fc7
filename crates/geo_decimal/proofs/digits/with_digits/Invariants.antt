use Rattle.std.proofs.Common.{◌≡◌, ◌≤◌, take}
use Rattle.std.specs.Str.Parse.{digits_value_after}
use Rattle.geo_decimal.proofs.digits.with_digits.Given as goal

abbrev pub invariant-loop-digit : goal.invariant-loop-digit
invariant-loop-digit l = record { value : l.value ≡ digits_value_after 10 l.start (take l.digit-index l.digits); within : l.value ≤ 180000000000 }
