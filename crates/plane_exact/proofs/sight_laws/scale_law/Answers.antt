use Rattle.plane_exact.proofs.ScaleLemmas.{times_crossing, times_open_segment, times_near_edge}
use Rattle.plane_exact.proofs.ScaleLaw.{edges_of_scaled, points_of_scaled, times_near_end, times_near, times_inside}
use Rattle.plane_exact.proofs.sight_laws.scale_law.Goals as goal

pub returns-clause-edges : goal.returns-clause-edges
returns-clause-edges c = edges_of_scaled

pub returns-clause-points : goal.returns-clause-points
returns-clause-points c = points_of_scaled

pub returns-clause-crossing : goal.returns-clause-crossing
returns-clause-crossing c = times_crossing

pub returns-clause-open_segment : goal.returns-clause-open_segment
returns-clause-open_segment c = times_open_segment

pub returns-clause-near_edge : goal.returns-clause-near_edge
returns-clause-near_edge c = times_near_edge

pub returns-clause-near_end : goal.returns-clause-near_end
returns-clause-near_end c = times_near_end

pub returns-clause-near : goal.returns-clause-near
returns-clause-near c = times_near

pub returns-clause-inside : goal.returns-clause-inside
returns-clause-inside c = times_inside
