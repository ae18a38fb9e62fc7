use Rattle.std.proofs.Common.{◌≡◌, ◌<◌, List, [], length, get_or, flat_map, sym, subst}
use mathlib.Core.Path.{subst₂}
use Rattle.venue_types.specs.declared.point.Part.{Part}
use Rattle.venue_types.specs.declared.point.Point.{Point}
use Rattle.venue_types.specs.declared.point.Ring.{Ring}
use Rattle.plane_exact.specs.Figure as figure
use Rattle.plane_exact.specs.Figure.{edges, part_edges, part_points, rings_of}
use Rattle.plane_exact.proofs.ListLemmas.{flat_map-flat_map}
use Rattle.opening_match.specs.Edges.{AddsEdges}
use Rattle.opening_match.proofs.EdgeLists.{leads_item, leads_all}
use Rattle.opening_match.proofs.Items.{all_past}
use Rattle.opening_match.proofs.edges.edges_of.Goals as goal

pub loop-part-preserved : goal.loop-part-preserved
loop-part-preserved c =
    let i = c.loop-part.part-index in
    let parts = c.args.shape.now.parts in
    let part = c.part-item.result in
    let within = subst (λ (list : List Part). i < length list) c.as_slice-part-items.ensures c.loop-part-test.true in
    let is = subst (λ (list : List Part). part ≡ get_or list i part) c.as_slice-part-items.ensures c.part-item.is in
    leads_item part_edges part_points parts i part [] (flat_map part_edges parts) (flat_map part_points parts) c.loop-part.list.items c.add_part.new.list.items within is c.loop-part.invariant c.in_ok-add_part.ensures

pub returns : goal.returns
returns c =
    let parts = c.args.shape.now.parts in
    let kept = c.loop-part.list.items in
    let past = all_past c.as_slice-part-items.result.now parts c.loop-part.part-index c.as_slice-part-items.ensures c.loop-part-test.false in
    let all = leads_all part_edges part_points parts c.loop-part.part-index [] (flat_map part_edges parts) (flat_map part_points parts) kept past c.loop-part.invariant in
    subst₂ (λ (list : List figure.Edge) (points : List Point). AddsEdges list points [] kept)
    (sym (flat_map-flat_map (λ (ring : Ring). edges ring.points) rings_of parts))
    (sym (flat_map-flat_map (λ (ring : Ring). ring.points) rings_of parts))
    all
