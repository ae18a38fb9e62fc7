use Rattle.std.proofs.Common.{List, subst, sym}
use Rattle.venue_types.specs.declared.point.Point.{Point}
use Rattle.venue_types.specs.declared.point.Ring.{Ring}
use Rattle.plane_exact.specs.Figure.{rings_of}
use Rattle.plane_exact.proofs.ListLemmas.{flat_map-flat_map}
use Rattle.ring_rules.specs.Bounds.{AreBounds}
use Rattle.ring_rules.proofs.positioned.ShapeHasPositions.bounds.Goals as goal

pub returns : goal.returns
returns c = subst (λ (points : List Point). AreBounds points c.bounds_of.result)
    (sym (flat_map-flat_map (λ (ring : Ring). ring.points) rings_of c.args.self.now.parts)) c.bounds_of.ensures
