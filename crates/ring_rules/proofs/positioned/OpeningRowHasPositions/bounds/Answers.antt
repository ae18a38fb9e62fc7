use Rattle.std.proofs.Common.{List, subst}
use Rattle.venue_types.specs.declared.point.Point.{Point}
use Rattle.ring_rules.specs.Bounds.{AreBounds}
use Rattle.ring_rules.proofs.BoundsLemmas.{flat_map_itself}
use Rattle.ring_rules.proofs.positioned.OpeningRowHasPositions.bounds.Goals as goal

pub returns : goal.returns
returns c = subst (λ (points : List Point). AreBounds points c.bounds_of.result) (flat_map_itself c.args.self.now.line.points) c.bounds_of.ensures
