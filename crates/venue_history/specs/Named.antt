-- Profiles that a change names, and that a reply names again.
use Rattle.std.specs.Prelude.{ℕ, List, [], ◌∷◌, Option, Some, None}
use Rattle.std.specs.Option.{option_map, option_and_then}
use Rattle.venue_types.specs.declared.profile_set.ProfileSet.{ProfileSet}
use Rattle.venue_types.specs.declared.settings.Settings.{Settings}
use Rattle.venue_types.specs.ProfileSets.{nobody, just, joined}
use Rattle.venue_history.specs.Closed.{everybody, names_of}
use Rattle.venue_history.specs.Ways.{profile_number}

-- the profiles of these names, if the settings have each of them
abbrev pub set_of_names : Settings → List (List ℕ) → Option ProfileSet
set_of_names settings [] = Some nobody
set_of_names settings (name ∷ names) = option_and_then (λ k. option_map (joined (just k)) (set_of_names settings names)) (profile_number settings name)

-- for whom a change is where these are named: for all where nobody is, and for nothing that can be told where a name is missing
abbrev pub named_set : Settings → Option (List (List ℕ)) → Option ProfileSet
named_set settings None = Some (everybody settings)
named_set settings (Some names) = set_of_names settings names

-- the names that a reply repeats of those that were named: each once, ascending by number, and none where nobody was named
abbrev pub repeated : Settings → Option (List (List ℕ)) → ProfileSet → Option (List (List ℕ))
repeated settings None set = None
repeated settings (Some names) set = Some (names_of settings set)
