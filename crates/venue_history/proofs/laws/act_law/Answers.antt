use Rattle.std.specs.Arc.{arc_value}
use Rattle.venue_history.proofs.Acting.{published_set, closure_has, reopening_has}
use Rattle.venue_history.proofs.laws.act_law.Goals as goal

pub returns-clause-published : goal.returns-clause-published
returns-clause-published c v venue id = published_set v (arc_value venue).features id

pub returns-clause-closed : goal.returns-clause-closed
returns-clause-closed c = closure_has

pub returns-clause-reopened : goal.returns-clause-reopened
returns-clause-reopened c h v it id k r fits = reopening_has h v it id k r
