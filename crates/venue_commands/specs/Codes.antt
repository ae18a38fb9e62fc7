-- The numbers of the statuses.
use Rattle.std.specs.Prelude.{ℕ}
use Rattle.venue_commands.specs.declared.status.Status.{Status}
use Rattle.venue_commands.specs.declared.status.Status.TheVariants.{Done, Negative, Wrong, Fault, Memory}

abbrev pub status_code : Status → ℕ
status_code Done = 0
status_code Negative = 1
status_code Wrong = 2
status_code Fault = 3
status_code Memory = 4
