use Rattle.venue_state.specs.Nearing.{AreCandidatesTo}
use Rattle.venue_state.proofs.board.Board.candidates.Given as goal

abbrev pub invariant-loop-n : goal.invariant-loop-n
invariant-loop-n l = AreCandidatesTo l.self.features l.category l.n l.found
