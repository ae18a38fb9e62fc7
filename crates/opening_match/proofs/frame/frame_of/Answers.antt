use Rattle.std.proofs.Common.{◌≡◌, ◌<◌, List, length, get_or, subst}
use Rattle.std.specs.Prelude.{Contains}
use Rattle.venue_types.specs.declared.point.Part.{Part}
use Rattle.venue_types.specs.declared.point.Point.{Point}
use Rattle.venue_types.specs.declared.point.Ring.{Ring}
use Rattle.plane_exact.specs.Figure.{part_points, rings_of}
use Rattle.plane_exact.proofs.ListLemmas.{flat_map-flat_map}
use Rattle.opening_match.proofs.Framing.{grows_item, grows_all}
use Rattle.opening_match.proofs.Items.{all_past}
use Rattle.opening_match.proofs.frame.frame_of.Goals as goal

pub loop-part-preserved : goal.loop-part-preserved
loop-part-preserved c =
    let i = c.loop-part.part-index in
    let part = c.part-item.result in
    let within = subst (λ (parts : List Part). i < length parts) c.as_slice-part-items.ensures c.loop-part-test.true in
    let is = subst (λ (parts : List Part). part ≡ get_or parts i part) c.as_slice-part-items.ensures c.part-item.is in
    grows_item part_points c.args.shape.now.parts i part _ c.loop-part.grown c.with_part-grown.result within is c.loop-part.invariant c.with_part-grown.ensures

pub returns : goal.returns
returns c =
    let parts = c.args.shape.now.parts in
    let past = all_past c.as_slice-part-items.result.now parts c.loop-part.part-index c.as_slice-part-items.ensures c.loop-part-test.false in
    let grown = grows_all part_points parts c.loop-part.part-index _ c.loop-part.grown past c.loop-part.invariant in
    record { has = λ p h. grown.has p (subst (λ (points : List Point). Contains points p) (flat_map-flat_map (λ (ring : Ring). ring.points) rings_of parts) h) }
