-- What a log keeps of each accepted change.
use Rattle.std.specs.Prelude.{◌≡◌, ℕ, ◌≤◌, List, Option, Some, None, All, length}
use Rattle.venue_folder.specs.Shelves.{file_limit}
use Rattle.venue_types.specs.declared.feature_id.FeatureId.{FeatureId}
use Rattle.venue_types.specs.declared.files.Slot.{Slot}
use Rattle.venue_types.specs.declared.files.Slot.TheVariants.{Absent, Held}

-- what was done: a folder was published with these files, by their numbers, or a feature was closed, or is open again, for the
-- profiles of a set, in which bit k stands for profile number k
pub data LoggedAct : Type 0 where
  published : List Slot → LoggedAct
  closed : FeatureId → ℕ → LoggedAct
  reopened : FeatureId → ℕ → LoggedAct

-- the worker, and what was done
pub record Logged : Type 0 where
  pub worker : ℕ
  pub act : LoggedAct

-- an absent file, or one within the limit
abbrev pub IsWithinLimit : Slot → Type 0
IsWithinLimit Absent = Unit {0}
IsWithinLimit (Held bytes) = length bytes ≤ file_limit

-- seventeen slots, each within the limit
pub record AreSlots (slots : List Slot) : Type 0 where
  pub seventeen : length slots ≡ 17
  pub within : All IsWithinLimit slots

abbrev pub IsAct : LoggedAct → Type 0
IsAct (published slots) = AreSlots slots
IsAct (closed feature profiles) = Unit {0}
IsAct (reopened feature profiles) = Unit {0}

-- a worker of a hall did what a log has room for
pub record IsLoggable (entry : Logged) : Type 0 where
  pub worker : entry.worker ≤ 16
  pub act : IsAct entry.act

-- where records are told, there are so many
abbrev pub AreCounted : Option (List Logged) → ℕ → Type 0
AreCounted None count = Unit {0}
AreCounted (Some records) count = length records ≡ count

-- the records are as they were, or are no longer told
abbrev pub AreKept : Option (List Logged) → Option (List Logged) → Type 0
AreKept old None = Unit {0}
AreKept old (Some records) = old ≡ Some records
