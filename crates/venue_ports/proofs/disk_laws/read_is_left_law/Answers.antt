use Rattle.std.proofs.Common.{ℕ, List, sym, subst}
use Rattle.venue_ports.specs.Moments.{Moment, Now, ReadIsLeft}
use Rattle.venue_ports.proofs.Tears.{read_stays_left}
use Rattle.venue_ports.proofs.disk_laws.read_is_left_law.Goals as goal

pub returns-clause-opened : goal.returns-clause-opened
returns-clause-opened c = λ bytes moments opened. subst (λ (l : List Moment). Now ReadIsLeft l) (sym opened.one) opened.left

pub returns-clause-goes : goal.returns-clause-goes
returns-clause-goes c = read_stays_left
