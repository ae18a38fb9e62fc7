use Rattle.unit_sight.proofs.JoinedTurn.{joined_turned}
use Rattle.unit_sight.proofs.laws.joined_turn_law.Goals as goal

pub returns : goal.returns
returns c = joined_turned
