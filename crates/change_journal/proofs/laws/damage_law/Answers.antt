use Rattle.change_journal.proofs.Damage.{none, one, begins, closed, longer, read}
use Rattle.change_journal.proofs.laws.damage_law.Goals as goal

pub returns-clause-none : goal.returns-clause-none
returns-clause-none c = none

pub returns-clause-one : goal.returns-clause-one
returns-clause-one c = one

pub returns-clause-begins : goal.returns-clause-begins
returns-clause-begins c = begins

pub returns-clause-closed : goal.returns-clause-closed
returns-clause-closed c = closed

pub returns-clause-longer : goal.returns-clause-longer
returns-clause-longer c = longer

pub returns-clause-read : goal.returns-clause-read
returns-clause-read c = read
