-- What `gen LEVELS` prints.
use Rattle.std.specs.Prelude.{◌≡◌, ℕ, List, Bool, true, false}
use Rattle.venue_commands.specs.BuildingReports.{IsTold}
use Rattle.venue_commands.specs.declared.status.Status.{Status}
use Rattle.venue_commands.specs.declared.status.Status.TheVariants.{Done, Negative}

-- the status where the folder of the building is accepted, and where it is rejected
abbrev pub told_status : Bool → Status
told_status true = Done
told_status false = Negative

-- `gen LEVELS`: the lines of the building of so many levels, or the report of its files
pub record GenOutput (levels : ℕ) (text : List ℕ) (status : Status) : Type 0 where
  pub accepted : Bool
  pub told : IsTold levels text accepted
  pub ended : status ≡ told_status accepted
