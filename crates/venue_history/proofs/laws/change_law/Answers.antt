use Rattle.venue_history.proofs.Changing.{result_of, result_length, result_kept, result_grows, result_legal}
use Rattle.venue_history.proofs.laws.change_law.Goals as goal

pub returns-clause-length : goal.returns-clause-length
returns-clause-length c shelf worker asked h k r is = result_length h k r (result_of shelf worker asked h k r is)

pub returns-clause-kept : goal.returns-clause-kept
returns-clause-kept c shelf worker asked h k r is = result_kept h k r (result_of shelf worker asked h k r is)

pub returns-clause-grows : goal.returns-clause-grows
returns-clause-grows c shelf worker asked h k r is = result_grows h k r (result_of shelf worker asked h k r is)

pub returns-clause-legal : goal.returns-clause-legal
returns-clause-legal c shelf worker asked h k r is = result_legal h k r (result_of shelf worker asked h k r is)
