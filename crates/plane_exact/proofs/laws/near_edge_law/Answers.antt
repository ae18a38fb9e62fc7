use Rattle.plane_exact.proofs.NearLaw.{near_from_position, position_from_near}
use Rattle.plane_exact.proofs.laws.near_edge_law.Goals as goal

pub returns : goal.returns
returns c p a b t = (position_from_near p a b t, λ (m, n, some, part, reach). near_from_position p a b t m n some part reach)
