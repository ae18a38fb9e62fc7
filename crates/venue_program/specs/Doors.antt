-- What is measured of the doors.
use Rattle.std.specs.Prelude.{◌≡◌, ℕ, List, Option}
use Rattle.std.specs.Option.{option_map}
use Rattle.venue_ports.specs.Causes.{one_more}
use Rattle.venue_ports.specs.declared.doors.Doors.{Ghosts as Listeners}

-- what they tell before a run and after it: the connections that were accepted, the binds and the address of the last one, and the count
-- of their faults
pub record DoorsRun : Type 0 where
  pub accepted : ℕ
  pub accepted_now : ℕ
  pub binds : Option ℕ
  pub binds_now : Option ℕ
  pub bound : Option (List ℕ)
  pub bound_now : Option (List ℕ)
  pub faults : ℕ
  pub faults_now : ℕ

-- what is measured between doors before and the same doors after
abbrev pub doors_between : {S K : Type 0} → Listeners S K → S → S → DoorsRun
doors_between D old new = record {
  accepted = D.accepted old;
  accepted_now = D.accepted new;
  binds = D.binds old;
  binds_now = D.binds new;
  bound = D.bound old;
  bound_now = D.bound new;
  faults = D.faults old;
  faults_now = D.faults new;
}

-- nothing was asked of them
pub record AreUnasked (doors : DoorsRun) : Type 0 where
  pub accepted : doors.accepted_now ≡ doors.accepted
  pub binds : doors.binds_now ≡ doors.binds
  pub bound : doors.bound_now ≡ doors.bound
  pub faults : doors.faults_now ≡ doors.faults

-- they were bound once, at this address
pub record AreBoundAt (address : List ℕ) (doors : DoorsRun) : Type 0 where
  pub once : doors.binds_now ≡ option_map one_more doors.binds
  pub there : doors.bound_now ≡ option_map (λ _. address) doors.bound

-- nobody came, and no accept failed
pub record NobodyCame (doors : DoorsRun) : Type 0 where
  pub accepted : doors.accepted_now ≡ doors.accepted
  pub faults : doors.faults_now ≡ doors.faults
