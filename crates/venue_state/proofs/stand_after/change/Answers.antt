-- One mark is set, and all else stays.
use Rattle.std.proofs.Common.{◌≡◌, ◌∙◌, ◌<◌, List, ap, sym, refl, subst, arith}
use Rattle.std.specs.Arc.{arc_value}
use Rattle.venue_types.specs.declared.feature_id.FeatureId.{FeatureId}
use Rattle.route_search.specs.Graphs.{network}
use Rattle.route_search.specs.Nodes.{closables}
use Rattle.venue_history.specs.Venues.{SeenVenue as Venue}
use Rattle.venue_state.specs.Boards.{closed_by, version_of}
use Rattle.venue_state.specs.Tallies.{IsTally, remarked}
use Rattle.venue_state.proofs.Stands.{tally_of, stands_over}
use Rattle.venue_state.proofs.stand_after.change.Goals as goal

pub mark-can-requires : goal.mark-can-requires
mark-can-requires c =
    let old = c.args.stand.now in
    let are : (network c.graph.result.now).closables ≡ closables (arc_value old.venue).features =
    c.graph.ensures.closables_are ∙ ap (λ (v : Venue). closables v.features) c.deref-2.ensures in
    record { tallied = subst (λ (ids : List FeatureId). IsTally ids old.tally) (sym are) (tally_of old c.requires.stands) }

pub returns-clause-stands : goal.returns-clause-stands
unfolding version_of
returns-clause-stands c =
    let old = c.args.stand.now in
    let are : (network c.graph.result.now).closables ≡ closables (arc_value old.venue).features =
    c.graph.ensures.closables_are ∙ ap (λ (v : Venue). closables v.features) c.deref-2.ensures in
    let room : old.number < (arc_value old.settings).last_version = c.requires.room in
    stands_over _ (network c.graph.result.now).closables (sym are) c.mark-can.ensures.tallied c.requires.stands.settings_are (omega (arith, room))

pub returns-clause-next : goal.returns-clause-next
unfolding version_of
returns-clause-next c =
    let old = c.args.stand.now in
    let new = c.mark-can.new.tally in
    let are : (network c.graph.result.now).closables ≡ closables (arc_value old.venue).features =
    c.graph.ensures.closables_are ∙ ap (λ (v : Venue). closables v.features) c.deref-2.ensures in
    let marked : closed_by new.marks (closables (arc_value old.venue).features)
    ≡ remarked (closables (arc_value old.venue).features) (closed_by old.tally.marks (closables (arc_value old.venue).features)) c.args.id c.args.profiles =
    subst (λ (ids : List FeatureId). closed_by new.marks ids ≡ remarked ids (closed_by old.tally.marks ids) c.args.id c.args.profiles) are c.mark-can.ensures.marked in
    rw marked refl
