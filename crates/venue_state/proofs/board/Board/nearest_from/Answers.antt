-- What was found and is told answers the question.
use Rattle.std.proofs.Common.{ℕ, List, length, subst}
use Rattle.route_search.specs.Nodes.{nodes}
use Rattle.nearest_place.specs.Near.{IsNear}
use Rattle.venue_history.specs.Nearest.{AreCandidates}
use Rattle.venue_history.specs.Ways.{Usable}
use Rattle.venue_state.proofs.Nearing.{near_answers}
use Rattle.venue_state.proofs.board.Board.nearest_from.Goals as goal

pub returns : goal.returns
returns c =
    let v = c.args.self.now in
    let asked = c.args.asked.now in
    let number = c.args.traveller.now.number in
    let profile = c.args.traveller.now.profile.now in
    let candidates = c.in_ok-candidates.candidates in
    near_answers v asked number profile c.args.a candidates c.in_ok-near.near c.in_ok-told.told c.requires.trip
    (subst (λ (category : List ℕ). AreCandidates v.features category candidates) c.category.ensures c.in_ok-candidates.ensures.are)
    (subst (λ (limit : ℕ). IsNear (Usable v number profile) (length (nodes v.features v.settings)) c.args.a candidates limit c.in_ok-near.near) c.limit-limit.ensures.limit c.in_ok-near.ensures)
    c.in_ok-told.ensures
