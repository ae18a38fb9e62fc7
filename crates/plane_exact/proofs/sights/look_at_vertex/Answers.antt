use Rattle.std.proofs.Common.{refl}
use Rattle.plane_exact.specs.Looks.{vertex_look}
use Rattle.plane_exact.proofs.DecisionLemmas.{vertex_stops_decides}
use Rattle.plane_exact.proofs.ScaleLaw.{same_test}
use Rattle.plane_exact.proofs.LookLemmas.{same_look}
use Rattle.plane_exact.proofs.sights.look_at_vertex.Goals as goal

pub returns : goal.returns
unfolding vertex_look
returns c = same_look (same_test _ _ _ _ c.stops.ensures (vertex_stops_decides c.args.way.from c.args.way.to c.args.way.tolerance c.args.v) (λ h. h, λ h. h)) refl refl
