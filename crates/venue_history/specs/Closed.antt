-- A version of a venue, and what is closed in it, and for whom. The layers above ask what is closed by these words alone.
use Rattle.std.specs.Prelude.{ℕ, ◌+◌, List, [], ◌∷◌, map, filter, length, Bool, not, ◌&&◌, if◌then◌else◌, nat_eq, Option, Some, None}
use Rattle.std.specs.List.{list_any}
use Rattle.venue_types.specs.declared.feature_id.FeatureId.{FeatureId}
use Rattle.venue_types.specs.declared.features.Features.{Features}
use Rattle.venue_types.specs.declared.profile_set.ProfileSet.{ProfileSet}
use Rattle.venue_types.specs.declared.reply.ClosedRow.{ClosedRow}
use Rattle.venue_types.specs.declared.settings.Profile.{Profile}
use Rattle.venue_types.specs.declared.settings.Settings.{Settings}
use Rattle.venue_types.specs.ProfileSets.{has, nobody, all_of, is_empty}
use Rattle.venue_build.specs.Identity.{is_same}
use Rattle.venue_history.specs.declared.entry.Closing.{Closing}

-- its number, its rows, the settings that decide answers, and what is closed for whom, in the order of what can be closed
pub record Version : Type 0 where
  pub number : ℕ
  pub features : Features
  pub settings : Settings
  pub closed : List Closing

-- whether the identifier is one of these
unfoldable pub is_one_of : List FeatureId → FeatureId → Bool
is_one_of ids id = list_any (λ other. is_same other id) ids

-- the identifier of what is closed
abbrev pub feature_of : Closing → FeatureId
feature_of it = it.feature

-- for whom the feature of this identifier is closed by this list: for nobody where it isn't listed
abbrev pub set_in : List Closing → FeatureId → ProfileSet
set_in [] id = nobody
set_in (it ∷ others) id = if is_same it.feature id then it.profiles else set_in others id

-- for whom the feature of this identifier is closed
abbrev pub closed_set : Version → FeatureId → ProfileSet
closed_set v id = set_in v.closed id

-- what is closed for the profile of this number, in order
abbrev pub closed_for : Version → ℕ → List FeatureId
closed_for v number = map feature_of (filter (λ (it : Closing). has number it.profiles) v.closed)

-- all that is closed for anybody, in order
abbrev pub closed_ids : Version → List FeatureId
closed_ids v = map feature_of v.closed

-- whether the feature of this identifier is closed for anybody
abbrev pub is_closed : Version → FeatureId → Bool
is_closed v id = is_one_of (closed_ids v) id

-- how many features are closed for anybody
abbrev pub closed_count : Version → ℕ
closed_count v = length v.closed

-- all profiles of the settings
abbrev pub everybody : Settings → ProfileSet
everybody settings = all_of (length settings.profiles)

-- whether a set is that of all profiles of the settings
abbrev pub is_everybody : Settings → ProfileSet → Bool
is_everybody settings set = nat_eq set.0 (everybody settings).0

-- whether the feature of this identifier is closed for all profiles of the settings, of which there are some
abbrev pub is_closed_for_all : Version → FeatureId → Bool
is_closed_for_all v id = is_everybody v.settings (closed_set v id) && not (is_empty (closed_set v id))

-- of these profiles, which begin with that of this number, the names of those in the set
abbrev pub names_from : ℕ → List Profile → ProfileSet → List (List ℕ)
names_from number [] set = []
names_from number (profile ∷ others) set = if has number set then profile.name ∷ names_from (number + 1) others set else names_from (number + 1) others set

-- the names of the profiles in the set, ascending by number
abbrev pub names_of : Settings → ProfileSet → List (List ℕ)
names_of settings set = names_from 0 settings.profiles set

-- the names of the profiles in a set as a reply tells them: none where they are all that there are
abbrev pub named : Settings → ProfileSet → Option (List (List ℕ))
named settings set = if is_everybody settings set then None else Some (names_of settings set)

-- what is closed as a reply lists it
abbrev pub closed_row : Settings → Closing → ClosedRow
closed_row settings it = record { id = it.feature; profiles = named settings it.profiles }

-- all that is closed, so
abbrev pub closed_rows : Version → List ClosedRow
closed_rows v = map (closed_row v.settings) v.closed

-- the names of those for whom the feature of this identifier is closed, as a reply tells them of a place: none where it is closed for all, or for nobody
abbrev pub shut_out : Version → FeatureId → Option (List (List ℕ))
shut_out v id = if is_empty (closed_set v id) then None else named v.settings (closed_set v id)
