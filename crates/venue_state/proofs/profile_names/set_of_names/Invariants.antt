use Rattle.std.proofs.Common.{◌≡◌, drop}
use Rattle.std.specs.Option.{option_map}
use Rattle.venue_types.specs.ProfileSets.{joined}
use Rattle.venue_history.specs.Named.{set_of_names}
use Rattle.venue_state.proofs.profile_names.set_of_names.Given as goal

-- the profiles of the names so far, with those of the rest, are those of all
abbrev pub invariant-loop-name : goal.invariant-loop-name
invariant-loop-name l = option_map (joined l.set) (set_of_names l.settings (drop l.name-index l.names)) ≡ set_of_names l.settings l.names
