use Rattle.std.proofs.Common.{◌≡◌, map, take}
use Rattle.venue_history.specs.Ways.{step_of}
use Rattle.venue_state.proofs.board.Board.steps.Given as goal

abbrev pub invariant-loop-link : goal.invariant-loop-link
invariant-loop-link l = l.steps.items ≡ map (step_of l.self) (take l.link-index l.walk)
