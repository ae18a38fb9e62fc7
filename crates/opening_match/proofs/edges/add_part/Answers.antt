use Rattle.std.proofs.Common.{◌≡◌, ◌<◌, List, length, get_or, subst}
use Rattle.venue_types.specs.declared.point.Ring.{Ring}
use Rattle.plane_exact.specs.Figure.{edges, ring_edges, ring_points, part_edges, part_points}
use Rattle.opening_match.proofs.EdgeLists.{adds_then, leads_item, leads_all}
use Rattle.opening_match.proofs.Items.{all_past}
use Rattle.opening_match.proofs.edges.add_part.Goals as goal

pub loop-hole-init : goal.loop-hole-init
loop-hole-init c = λ new later.
    let part = c.args.part.now in
    adds_then (edges part.outer.points) (ring_edges part.holes) part.outer.points (ring_points part.holes) c.args.list.now.items c.add_ring.new.list.items new c.in_ok-add_ring.ensures later

pub loop-hole-preserved : goal.loop-hole-preserved
loop-hole-preserved c =
    let i = c.loop-hole.hole-index in
    let part = c.args.part.now in
    let hole = c.hole-item.result in
    let within = subst (λ (rings : List Ring). i < length rings) c.as_slice-hole-items.ensures c.loop-hole-test.true in
    let is = subst (λ (rings : List Ring). hole ≡ get_or rings i hole) c.as_slice-hole-items.ensures c.hole-item.is in
    leads_item (λ (ring : Ring). edges ring.points) (λ (ring : Ring). ring.points) part.holes i hole c.args.list.now.items (part_edges part) (part_points part) c.loop-hole.list.items c.add_ring-in-loop-hole.new.list.items within is c.loop-hole.invariant c.in_ok-add_ring-2.ensures

pub returns : goal.returns
returns c =
    let part = c.args.part.now in
    let past = all_past c.as_slice-hole-items.result.now part.holes c.loop-hole.hole-index c.as_slice-hole-items.ensures c.loop-hole-test.false in
    leads_all (λ (ring : Ring). edges ring.points) (λ (ring : Ring). ring.points) part.holes c.loop-hole.hole-index c.args.list.now.items (part_edges part) (part_points part) c.loop-hole.list.items past c.loop-hole.invariant
