-- What is asked for in vain: first the profile, then the start, the end and the stops.
use Rattle.std.proofs.Common.{◌∙◌, List, None, subst}
use Rattle.std.specs.Prelude.{Contains}
use Rattle.venue_types.specs.declared.feature_id.FeatureId.{FeatureId}
use Rattle.venue_state.specs.Touring.{AreNodes}
use Rattle.venue_state.proofs.TourAnswers.{has_profile, is_no_place, is_place}
use Rattle.venue_state.proofs.board.Board.tour.Goals as goal

pub returns-in-None-node_of : goal.returns-in-None-node_of
returns-in-None-node_of c =
    let v = c.args.self.now in (
      has_profile v _ _ _ c.profile.ensures c.in-Some.ensures.profile,
      is_no_place v _ _ c.from.ensures c.in-None-node_of.ensures.node,
    )

pub returns-in-None-node_of-2 : goal.returns-in-None-node_of-2
returns-in-None-node_of-2 c =
    let v = c.args.self.now in (
      has_profile v _ _ _ c.profile.ensures c.in-Some.ensures.profile,
      is_place v _ _ _ c.from.ensures c.in-Some-node_of.ensures.node,
      is_no_place v _ _ c.to.ensures c.in-None-node_of-2.ensures.node,
    )

pub returns-in-None-2 : goal.returns-in-None-2
returns-in-None-2 c =
    let v = c.args.self.now in
    let ids = c.as_slice.result.now in
    let none : AreNodes v ids None = subst (AreNodes v ids) c.in-None-2.is c.in_ok-nodes_of-in-Some-node_of-2.ensures in (
      has_profile v _ _ _ c.profile.ensures c.in-Some.ensures.profile,
      is_place v _ _ _ c.from.ensures c.in-Some-node_of.ensures.node,
      is_place v _ _ _ c.to.ensures c.in-Some-node_of-2.ensures.node,
      none.0,
      subst (λ (ids : List FeatureId). Contains ids none.0) (c.as_slice.ensures ∙ c.stops.ensures.stops) none.1,
      none.2,
    )
