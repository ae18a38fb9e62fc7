-- What is asked for in vain: first the profile, then the start.
use Rattle.venue_state.proofs.TourAnswers.{has_profile, is_no_place}
use Rattle.venue_state.proofs.board.Board.nearest.Goals as goal

pub returns-in-None-node_of : goal.returns-in-None-node_of
returns-in-None-node_of c =
    let v = c.args.self.now in (
      has_profile v _ _ _ c.profile.ensures c.in-Some.ensures.profile,
      is_no_place v _ _ c.from.ensures c.in-None-node_of.ensures.node,
    )
