use Rattle.venue_program.proofs.Completing.{is_done}
use Rattle.venue_program.proofs.laws.complete_run_law.Goals as goal

pub returns : goal.returns
returns c = is_done
