use Rattle.std.proofs.Common.{refl}
use Rattle.venue_sockets.proofs.looks.is_whole.Goals as goal

-- a refusal is no part
pub returns-in-Fault : goal.returns-in-Fault
returns-in-Fault c = ((λ t short. c.in-Fault.ensures.short short), (λ whole. refl))
