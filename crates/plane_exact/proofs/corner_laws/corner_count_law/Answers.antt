use Rattle.plane_exact.proofs.CornerCounts.{corners_among, corners_few, edges_few}
use Rattle.plane_exact.proofs.corner_laws.corner_count_law.Goals as goal

pub returns-clause-among : goal.returns-clause-among
returns-clause-among c = corners_among

pub returns-clause-few : goal.returns-clause-few
returns-clause-few c = corners_few

pub returns-clause-edges : goal.returns-clause-edges
returns-clause-edges c = edges_few
