-- The settings that the text of a file stands for, or its first fault.
use Rattle.std.specs.Prelude.{◌≡◌, ℕ, pos, Bool, false, List, ◌++◌, map, Some, None, MatchOption, Result, Ok, Err, IsUtf8, codes, option_and_then, unwrap_or}
use Rattle.std.specs.List.{filter_map}
use Rattle.imdf_access.specs.Profiles.{built_in_profiles}
use Rattle.toml.specs.Data.{Members, integer, get_member, as_bool, as_str}
use Rattle.toml.specs.Parse.{parse_document}
use Rattle.venue_types.specs.declared.settings.Extras.{Extras}
use Rattle.venue_types.specs.declared.settings.Inside.{Inside}
use Rattle.venue_types.specs.declared.settings.Inside.TheVariants.{Straight}
use Rattle.venue_types.specs.declared.settings.Profile.{Profile}
use Rattle.venue_types.specs.declared.settings.Settings.{Settings}
use Rattle.venue_settings.specs.declared.fault.SettingsFault.{SettingsFault}
use Rattle.venue_settings.specs.declared.fault.SettingsFault.TheVariants as fault
use Rattle.venue_settings.specs.Faults.{first_fault, items_at, profile_tables, text_at}
use Rattle.venue_settings.specs.Values.{inside_of}

-- the bytes are the text of a document with this table
pub record IsDocument (bytes : List ℕ) (table : Members) : Type 0 where
  pub utf8 : IsUtf8 bytes
  pub parsed : parse_document bytes ≡ Some table

-- n is the number at the key, or the default where there is no such key
abbrev pub IsNumberAt : Members → List ℕ → ℕ → ℕ → Type 0
IsNumberAt table key default n = MatchOption (get_member key table) (n ≡ default) (λ value. value ≡ integer (pos n))

-- the truth value at the key, false where there is none
abbrev pub truth_at : List ℕ → Members → Bool
truth_at key table = unwrap_or (option_and_then as_bool (get_member key table)) false

-- how rooms are crossed by the word at the key, straight where there is no such key
abbrev pub IsInsideAt : Members → List ℕ → Inside → Type 0
IsInsideAt table key inside = MatchOption (get_member key table) (inside ≡ Straight) (λ value. option_and_then inside_of (as_str value) ≡ Some inside)

-- the profile of a table
abbrev pub profile_of : Members → Profile
profile_of table = record {
  name = text_at (codes "name") table;
  elevator = truth_at (codes "elevator") table;
  escalator = truth_at (codes "escalator") table;
  movingwalkway = truth_at (codes "movingwalkway") table;
  ramp = truth_at (codes "ramp") table;
  stairs = truth_at (codes "stairs") table;
  revolving = truth_at (codes "revolving") table;
  turnstile = truth_at (codes "turnstile") table;
  restricted = truth_at (codes "restricted") table;
  marked = truth_at (codes "marked") table;
}

-- the extras of a table
pub record HasExtras (table : Members) (extras : Extras) : Type 0 where
  pub elevator : IsNumberAt table (codes "elevator_extra") 0 extras.elevator
  pub escalator : IsNumberAt table (codes "escalator_extra") 0 extras.escalator
  pub movingwalkway : IsNumberAt table (codes "movingwalkway_extra") 0 extras.movingwalkway
  pub ramp : IsNumberAt table (codes "ramp_extra") 0 extras.ramp
  pub stairs : IsNumberAt table (codes "stairs_extra") 0 extras.stairs
  pub traversal : IsNumberAt table (codes "traversal_extra") 0 extras.traversal

-- the settings of a table without a fault
pub record HasSettings (table : Members) (settings : Settings) : Type 0 where
  pub kx : get_member (codes "kx") table ≡ Some (integer (pos settings.kx))
  pub ky : get_member (codes "ky") table ≡ Some (integer (pos settings.ky))
  pub border_tol : IsNumberAt table (codes "border_tol") 1000 settings.border_tol
  pub contain_tol : IsNumberAt table (codes "contain_tol") 5000 settings.contain_tol
  pub inside : IsInsideAt table (codes "inside") settings.inside
  pub extras : HasExtras table settings.extras
  pub last_version : IsNumberAt table (codes "last_version") 4294967295 settings.last_version
  pub staff_keys : settings.staff_keys ≡ filter_map as_str (items_at (codes "staff_keys") table)
  pub profiles : settings.profiles ≡ built_in_profiles ++ map profile_of (profile_tables table)

-- what reading the bytes gives; memory may run out
pub data IsSettingsOf (bytes : List ℕ) : Result Settings SettingsFault → Type 0 where
  no_document : ((table : Members) → ¬ IsDocument bytes table) → IsSettingsOf bytes (Err fault.NotToml)
  faulty : (table : Members) (found : SettingsFault) → IsDocument bytes table → first_fault table ≡ Some found → IsSettingsOf bytes (Err found)
  sound : (table : Members) (settings : Settings) → IsDocument bytes table → first_fault table ≡ None → HasSettings table settings → IsSettingsOf bytes (Ok settings)
  no_memory : IsSettingsOf bytes (Err fault.OutOfMemory)
