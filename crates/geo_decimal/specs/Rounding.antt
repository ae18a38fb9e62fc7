-- The code's own way, and no promise: digits read as a number that is cut after some of them and rounded by the next.
use Rattle.std.specs.Prelude.{ℕ, ◌+◌, ◌-◌, ◌*◌, ◌^◌, List, length, take, nat_le, slice_index_or, if◌then◌else◌}
use Rattle.std.specs.Str.Parse.{digits_value}

-- the first `kept` digits, with a 0 for each that there is not
abbrev pub front_value : List ℕ → ℕ → ℕ
front_value ds kept = digits_value 10 (take kept ds) * 10 ^ (kept - length ds)

-- and one more where the next digit is at least 5
abbrev pub rounded_at : List ℕ → ℕ → ℕ
rounded_at ds kept = front_value ds kept + (if nat_le 53 (slice_index_or ds kept 48) then 1 else 0)
