use Rattle.std.proofs.Common.{◌≡◌, drop, map}
use Rattle.std.specs.List.{filter_map}
use Rattle.toml.specs.Data.{as_table}
use Rattle.toml.specs.View.{view}
use Rattle.venue_settings.specs.Faults.{first_of, profile_faults}
use Rattle.venue_settings.proofs.profiles.judge_profiles.Given as goal

-- the first fault of the tables that are left is that of all tables
abbrev pub invariant-loop-value : goal.invariant-loop-value
invariant-loop-value l =
    first_of (profile_faults (filter_map as_table (map view (drop l.value-index l.values)))) ≡ first_of (profile_faults (filter_map as_table (map view l.values)))
