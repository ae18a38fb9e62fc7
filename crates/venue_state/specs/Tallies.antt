-- Marks that are counted: the code's own machinery.
use Rattle.std.specs.Prelude.{◌≡◌, List, length, filter, not, if◌then◌else◌}
use Rattle.venue_types.specs.declared.feature_id.FeatureId.{FeatureId}
use Rattle.venue_types.specs.declared.profile_set.ProfileSet.{ProfileSet}
use Rattle.route_search.specs.Identity.{is_same}
use Rattle.venue_history.specs.declared.entry.Closing.{Closing}
use Rattle.venue_history.specs.Closed.{is_one_of, set_in}
use Rattle.venue_history.specs.Versions.{closings}
use Rattle.venue_state.specs.Boards.{closed_by}
use Rattle.venue_state.specs.declared.tally.Tally.{Tally}

-- one mark for each of these identifiers, and the count is that of those that are closed for somebody
pub record IsTally (ids : List FeatureId) (tally : Tally) : Type 0 where
  pub whole : length tally.marks ≡ length ids
  pub counted : tally.closed ≡ length (closed_by tally.marks ids)

-- of these identifiers the one is closed for the set that is told, and each other as it is listed
abbrev pub remarked : List FeatureId → List Closing → FeatureId → ProfileSet → List Closing
remarked ids closed id told = closings (λ other. if is_same other id then told else set_in closed other) ids

-- of these closed identifiers those that aren't among the others
abbrev pub gone_from : List FeatureId → List FeatureId → List FeatureId
gone_from ids closed = filter (λ id. not (is_one_of ids id)) closed
