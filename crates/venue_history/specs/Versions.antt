-- Which acts may be done at a version, and the version after each.
use Rattle.std.specs.Prelude.{◌≡◌, ◌+◌, ◌<◌, ◌≤◌, List, [], ◌∷◌, length, if◌then◌else◌, Contains, IsTrue}
use Rattle.std.specs.Arc.{arc_value}
use Rattle.venue_types.specs.declared.feature_id.FeatureId.{FeatureId}
use Rattle.venue_types.specs.declared.features.Features.{Features}
use Rattle.venue_types.specs.declared.profile_set.ProfileSet.{ProfileSet}
use Rattle.venue_types.specs.declared.settings.Settings.{Settings}
use Rattle.venue_types.specs.ProfileSets.{joined, without, is_empty, is_within, has_all_of, has_any_of}
use Rattle.venue_build.specs.Identity.{is_same}
use Rattle.venue_build.specs.Nodes.{closables}
use Rattle.venue_build.specs.Report.{AreValid}
use Rattle.venue_history.specs.declared.entry.Act.{Act}
use Rattle.venue_history.specs.declared.entry.Act.TheVariants.{Published, Closed, Reopened}
use Rattle.venue_history.specs.declared.entry.Closing.{Closing}
use Rattle.venue_history.specs.declared.entry.Entry.{Entry}
use Rattle.venue_history.specs.Closed.{Version, closed_set}

-- the first version: nothing is closed
abbrev pub opening : Features → Settings → Version
opening features settings = record { number = 1; features = features; settings = settings; closed = [] }

-- of these identifiers those that are closed for somebody, each with its set, in their order
abbrev pub closings : (FeatureId → ProfileSet) → List FeatureId → List Closing
closings set_of [] = []
closings set_of (id ∷ ids) = if is_empty (set_of id) then closings set_of ids else record { feature = id; profiles = set_of id } ∷ closings set_of ids

-- what is closed and can be closed by these rows stays so, in the order of these
abbrev pub still_closed : Version → Features → List Closing
still_closed v features = closings (closed_set v) (closables features)

-- for whom each feature is closed once one is closed for some more
abbrev pub set_with : Version → Closing → FeatureId → ProfileSet
set_with v it id = if is_same id it.feature then joined (closed_set v id) it.profiles else closed_set v id

-- for whom each feature is closed once one is open again for some
abbrev pub set_without : Version → Closing → FeatureId → ProfileSet
set_without v it id = if is_same id it.feature then without (closed_set v id) it.profiles else closed_set v id

-- the feature is closed for these profiles too, all others as they were
abbrev pub with_closed : Version → Closing → List Closing
with_closed v it = closings (set_with v it) (closables v.features)

-- the feature is closed for these profiles no longer, all others as they were
abbrev pub without_closed : Version → Closing → List Closing
without_closed v it = closings (set_without v it) (closables v.features)

-- an act may be for these profiles: there is one, and all are profiles of the settings
pub record AreProfiles (settings : Settings) (set : ProfileSet) : Type 0 where
  pub some : ¬ IsTrue (is_empty set)
  pub known : IsTrue (is_within (length settings.profiles) set)

-- the act can be done: a publication has the version's settings and rows that every phase accepts, a closure names a feature
-- that can be closed and isn't for one of its profiles, and a reopening one that is closed for one of its profiles
abbrev pub Fits : Version → Act → Type 0
Fits v (Published venue) = ((arc_value venue).settings ≡ v.settings) × AreValid (arc_value venue).features v.settings
Fits v (Closed it) = AreProfiles v.settings it.profiles × Contains (closables v.features) it.feature × ¬ IsTrue (has_all_of (closed_set v it.feature) it.profiles)
Fits v (Reopened it) = AreProfiles v.settings it.profiles × IsTrue (has_any_of (closed_set v it.feature) it.profiles)

-- the version after the act
abbrev pub after : Version → Act → Version
after v (Published venue) = record v { number = v.number + 1; features = (arc_value venue).features; closed = still_closed v (arc_value venue).features }
after v (Closed it) = record v { number = v.number + 1; closed = with_closed v it }
after v (Reopened it) = record v { number = v.number + 1; closed = without_closed v it }

-- the entry may be made at the version: there is room for one version more, one of sixteen workers makes it, and it can be done
pub record MayFollow (v : Version) (e : Entry) : Type 0 where
  pub room : v.number < v.settings.last_version
  pub worker_some : 1 ≤ e.worker
  pub worker_range : e.worker ≤ 16
  pub fits : Fits v e.act
