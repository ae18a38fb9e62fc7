use Rattle.std.proofs.Common.{◌≡◌, ◌++◌, codes, drop, map}
use Rattle.std.specs.List.{filter_map}
use Rattle.imdf_access.specs.Profiles.{built_in_profiles}
use Rattle.toml.specs.Data.{as_table}
use Rattle.toml.specs.View.{view}
use Rattle.venue_settings.specs.Faults.{built_in_names, first_repeated, text_at}
use Rattle.venue_settings.specs.Settings.{profile_of}
use Rattle.venue_settings.proofs.profiles.all_profiles.Given as goal

-- the profiles so far and those of the tables that are left are all profiles, and the first repeated name is still ahead
abbrev pub invariant-loop-value : goal.invariant-loop-value
invariant-loop-value l = record {
  made :
      l.profiles ++ map profile_of (filter_map as_table (map view (drop l.value-index l.values)))
      ≡ built_in_profiles ++ map profile_of (filter_map as_table (map view l.values));
  repeated :
      first_repeated (map (λ profile. profile.name) l.profiles) (map (text_at (codes "name")) (filter_map as_table (map view (drop l.value-index l.values))))
      ≡ first_repeated built_in_names (map (text_at (codes "name")) (filter_map as_table (map view l.values)));
}
