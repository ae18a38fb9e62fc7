use Rattle.venue_types.proofs.Items.{Contains-later}
use Rattle.venue_types.specs.declared.point.Ring.{Ring}
use Rattle.plane_exact.specs.Plane.{IsInRange}
use Rattle.plane_exact.specs.Figure.{rings_of}
use Rattle.plane_exact.proofs.ScalingLemmas.{all_item, has_item}
use Rattle.plane_exact.proofs.scaling.scaled_part.Goals as goal

pub scaled_ring-requires-in-loop-hole-clause-range : goal.scaled_ring-requires-in-loop-hole-clause-range
scaled_ring-requires-in-loop-hole-clause-range c =
    let part = c.args.part.now in
    let hole = c.hole-item.result in
    let has = has_item _ part.holes c.loop-hole.hole-index hole c.as_slice-hole-items.ensures c.loop-hole-test.true c.hole-item.is in
    all_item IsInRange (λ (ring : Ring). ring.points) (rings_of part) hole (Contains-later part.outer part.holes hole has) c.requires.range
