-- What a board keeps, and the version that it stands for: the code's own machinery.
use Rattle.std.specs.Prelude.{◌≡◌, ◌≤◌, List, [], ◌∷◌, length, if◌then◌else◌}
use Rattle.std.specs.Arc.{arc_value}
use Rattle.venue_types.specs.declared.feature_id.FeatureId.{FeatureId}
use Rattle.venue_types.specs.declared.profile_set.ProfileSet.{ProfileSet}
use Rattle.venue_types.specs.ProfileSets.{is_empty}
use Rattle.route_search.specs.Nodes.{closables}
use Rattle.venue_history.specs.declared.entry.Closing.{Closing}
use Rattle.venue_history.specs.Closed.{Version}
use Rattle.venue_state.specs.declared.stand.Stand.{Stand}

-- of these identifiers those whose mark isn't empty, each with that set, in their order
abbrev pub closed_by : List ProfileSet → List FeatureId → List Closing
closed_by marks [] = []
closed_by [] (id ∷ ids) = []
closed_by (set ∷ marks) (id ∷ ids) = if is_empty set then closed_by marks ids else record { feature = id; profiles = set } ∷ closed_by marks ids

-- the version: what is closed is what stands marked
unfoldable pub version_of : Stand → Version
version_of stand = record {
  number = stand.number;
  features = (arc_value stand.venue).features;
  settings = arc_value stand.settings;
  closed = closed_by stand.tally.marks (closables (arc_value stand.venue).features);
}

-- the marks are those of the venue, the count is theirs, the settings are the venue's, and the number is no later than the last
pub record IsStand (stand : Stand) : Type 0 where
  pub marks_are : length stand.tally.marks ≡ length (closables (arc_value stand.venue).features)
  pub count_is : stand.tally.closed ≡ length (closed_by stand.tally.marks (closables (arc_value stand.venue).features))
  pub settings_are : (arc_value stand.venue).settings ≡ arc_value stand.settings
  pub number_is : stand.number ≤ (arc_value stand.settings).last_version
