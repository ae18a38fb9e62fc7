use Rattle.std.proofs.Common.{List, subst}
use Rattle.venue_types.specs.declared.point.Point.{Point}
use Rattle.venue_types.specs.declared.point.Ring.{Ring}
use Rattle.opening_match.specs.Frames.{Grows}
use Rattle.opening_match.proofs.Framing.{grows_none, grows_item, grows_all}
use Rattle.opening_match.proofs.frame.with_rings.Goals as goal

pub loop-ring-init : goal.loop-ring-init
loop-ring-init c = grows_none c.args.frame

pub loop-ring-preserved : goal.loop-ring-preserved
loop-ring-preserved c =
    grows_item (λ (ring : Ring). ring.points) c.args.rings.now c.loop-ring.ring-index c.ring-item.result c.args.frame c.loop-ring.grown c.with_points-grown.result c.loop-ring-test.true c.ring-item.is c.loop-ring.invariant
    (subst (λ (points : List Point). Grows c.loop-ring.grown c.with_points-grown.result points) c.as_slice.ensures c.with_points-grown.ensures)

pub returns : goal.returns
returns c = grows_all (λ (ring : Ring). ring.points) c.args.rings.now c.loop-ring.ring-index c.args.frame c.loop-ring.grown c.loop-ring-test.false c.loop-ring.invariant
