-- What may follow a version of which all but the rows is known, and what stands then.
use Rattle.std.proofs.Common.{◌≡◌, ◌∙◌, ℕ, ◌+◌, ◌<◌, ◌≤◌, List, refl, ap, subst, arith, Some, None}
use Rattle.std.specs.Prelude.{map}
use Rattle.std.specs.Arc.{arc_value}
use Rattle.std.specs.declared.alloc.Global.{Global}
use Rattle.std.specs.declared.sync.Arc.{Arc}
use Rattle.venue_types.specs.declared.feature_id.FeatureId.{FeatureId}
use Rattle.venue_types.specs.declared.profile_set.ProfileSet.{ProfileSet}
use Rattle.venue_types.specs.declared.settings.Settings.{Settings}
use Rattle.route_search.specs.Nodes.{closables}
use Rattle.venue_history.specs.Report.{AreValid}
use Rattle.venue_history.specs.Venues.{SeenVenue as Venue}
use Rattle.venue_history.specs.declared.entry.Act.TheVariants.{Published}
use Rattle.venue_history.specs.declared.entry.Closing.{Closing}
use Rattle.venue_history.specs.Closed.{Version, feature_of, set_in}
use Rattle.venue_history.specs.Versions.{after, closings}
use Rattle.venue_state.specs.Boards.{closed_by}
use Rattle.venue_state.specs.Preparing.{dropped_by}
use Rattle.venue_state.specs.Replaying.{IsEnteredBehind, IsLeft}
use Rattle.venue_state.specs.Tallies.{gone_from}
use Rattle.venue_state.specs.declared.outgoing.Outgoing.{Outgoing}

-- one of sixteen workers may make one version more
abbrev pub HasRoomFor : Outgoing → ℕ → Type 0
HasRoomFor left worker = (left.number < (arc_value left.settings).last_version) × (1 ≤ worker) × (worker ≤ 16)

room_of : (v : Version) (left : Outgoing) → IsLeft v left → v.number < v.settings.last_version → left.number < (arc_value left.settings).last_version
room_of v left is room =
    let number = is.number_is in
    let last = ap (λ (s : Settings). s.last_version) is.settings_are in
    omega (arith, number, last, room)

room_in : (v : Version) (left : Outgoing) → IsLeft v left → left.number < (arc_value left.settings).last_version → v.number < v.settings.last_version
room_in v left is room =
    let number = is.number_is in
    let last = ap (λ (s : Settings). s.last_version) is.settings_are in
    omega (arith, number, last, room)

pub none_behind : (left : Outgoing) (worker : ℕ) (venue : Arc Venue Global) → ¬ HasRoomFor left worker
    → IsEnteredBehind left (record { worker = worker; act = Published venue }) None
none_behind left worker venue none v is may = none (room_of v left is may.room, may.worker_some, may.worker_range)

pub one_behind : (left : Outgoing) (worker : ℕ) (venue : Arc Venue Global) (new : Version) → HasRoomFor left worker
    → (arc_value venue).settings ≡ arc_value left.settings → AreValid (arc_value venue).features (arc_value venue).settings
    → ((v : Version) → IsLeft v left → new ≡ after v (Published venue)) → IsEnteredBehind left (record { worker = worker; act = Published venue }) (Some new)
one_behind left worker venue new room same valid next v is =
    let settings : (arc_value venue).settings ≡ v.settings = same ∙ is.settings_are in (
      record {
        room = room_in v left is room.0;
        worker_some = room.1;
        worker_range = room.2;
        fits = (settings, subst (AreValid (arc_value venue).features) settings valid);
      },
      next v is,
    )

-- what is marked over the new rows is what was closed and can be closed still
pub next_after : (v : Version) (left : Outgoing) (venue : Arc Venue Global) (new : Version) (marks : List ProfileSet) (ids : List FeatureId) (closed : List Closing)
    → IsLeft v left → closed ≡ left.closed → ids ≡ closables (arc_value venue).features → closed_by marks ids ≡ closings (set_in closed) ids
    → new ≡ record { number = left.number + 1; features = (arc_value venue).features; settings = arc_value left.settings; closed = closed_by marks (closables (arc_value venue).features) }
    → new ≡ after v (Published venue)
next_after v left venue new marks ids closed is listed are marked is_new =
    let ours : closed_by marks (closables (arc_value venue).features) ≡ closings (set_in closed) (closables (arc_value venue).features) =
    subst (λ (xs : List FeatureId). closed_by marks xs ≡ closings (set_in closed) xs) are marked in
    let theirs : closed ≡ v.closed = listed ∙ is.closed_is in
    let whole : closed_by marks (closables (arc_value venue).features) ≡ closings (set_in v.closed) (closables (arc_value venue).features) =
    ours ∙ ap (λ (cs : List Closing). closings (set_in cs) (closables (arc_value venue).features)) theirs in
    is_new ∙ rw (is.number_is, is.settings_are, whole) refl

-- what is closed and can't be closed any more is dropped
pub dropped_behind : (v : Version) (left : Outgoing) (venue : Arc Venue Global) (dropped ids : List FeatureId) (closed : List Closing)
    → IsLeft v left → closed ≡ left.closed → ids ≡ closables (arc_value venue).features → dropped ≡ gone_from ids (map feature_of closed)
    → dropped ≡ dropped_by v (Published venue)
dropped_behind v left venue dropped ids closed is listed are gone =
    gone ∙ ap (λ (xs : List FeatureId). gone_from xs (map feature_of closed)) are
    ∙ ap (λ (cs : List Closing). gone_from (closables (arc_value venue).features) (map feature_of cs)) (listed ∙ is.closed_is)
