use Rattle.std.proofs.Common.{List, take}
use Rattle.venue_types.specs.declared.feature_id.FeatureId.{FeatureId}
use Rattle.venue_nodes.specs.Filling.{AreNumbers, AreFilled}
use Rattle.venue_nodes.proofs.unit_rows.filled.Given as goal

-- the nodes in front are seated
abbrev pub invariant-loop-node : goal.invariant-loop-node
invariant-loop-node l = (nodes : List (List FeatureId)) → AreNumbers l.walkables.ids.items nodes l.named → AreFilled l.walkables.ids.items (take l.node nodes) l.filling.rows.items l.filling.seats
