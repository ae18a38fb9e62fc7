-- What stands, by its parts.
use Rattle.std.proofs.Common.{◌≡◌, ◌∙◌, ◌≤◌, List, [], length, refl, sym, ap}
use Rattle.std.specs.Arc.{arc_value}
use Rattle.venue_types.specs.declared.feature_id.FeatureId.{FeatureId}
use Rattle.route_search.specs.Nodes.{closables}
use Rattle.venue_history.specs.declared.entry.Act.{Act}
use Rattle.venue_history.specs.declared.entry.Act.TheVariants.{Published, Closed, Reopened}
use Rattle.venue_history.specs.Closed.{Version}
use Rattle.venue_state.specs.declared.stand.Stand.{Stand}
use Rattle.venue_state.specs.Boards.{IsStand, closed_by, version_of}
use Rattle.venue_state.specs.Preparing.{dropped_by}
use Rattle.venue_state.specs.Replaying.{IsClosureAct}
use Rattle.venue_state.specs.Tallies.{IsTally}

-- the version of what stands, part by part
pub version_so : (stand : Stand) (v : Version) → stand.number ≡ v.number → (arc_value stand.venue).features ≡ v.features → arc_value stand.settings ≡ v.settings
    → closed_by stand.tally.marks (closables v.features) ≡ v.closed → version_of stand ≡ v
unfolding version_of
version_so stand v number features settings closed = rw (number, features, settings, closed) refl

pub tally_of : (stand : Stand) → IsStand stand → IsTally (closables (arc_value stand.venue).features) stand.tally
tally_of stand is = record { whole = is.marks_are; counted = is.count_is }

-- it stands where its marks are those of what can be closed
pub stands_over : (stand : Stand) (ids : List FeatureId) → closables (arc_value stand.venue).features ≡ ids → IsTally ids stand.tally
    → (arc_value stand.venue).settings ≡ arc_value stand.settings → stand.number ≤ (arc_value stand.settings).last_version → IsStand stand
stands_over stand ids are tallied settings number = record {
  marks_are = tallied.whole ∙ sym (ap length are);
  count_is = tallied.counted ∙ ap (λ (xs : List FeatureId). length (closed_by stand.tally.marks xs)) (sym are);
  settings_are = settings;
  number_is = number;
}

-- a closure or a reopening drops nothing
pub none_dropped : (v : Version) (a : Act) → IsClosureAct a → dropped_by v a ≡ []
none_dropped v (Published venue) closure = absurd closure
none_dropped v (Closed it) closure = refl
none_dropped v (Reopened it) closure = refl
