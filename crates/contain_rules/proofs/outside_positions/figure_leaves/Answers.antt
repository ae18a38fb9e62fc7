use Rattle.std.proofs.Common.{◌≡◌, ◌∙◌, ◌↔◌, IsTrue, List, flat_map, ap, sym, subst}
use Rattle.venue_types.specs.declared.point.Point.{Point}
use Rattle.venue_types.specs.declared.point.Ring.{Ring}
use Rattle.plane_exact.specs.Figure.{part_points, rings_of, vertices}
use Rattle.plane_exact.proofs.ListLemmas.{flat_map-flat_map}
use Rattle.contain_rules.specs.Judging.{AreBeside, SomeLeaves}
use Rattle.contain_rules.proofs.outside_positions.figure_leaves.Goals as goal

pub parts_leave-requires-clause-close : goal.parts_leave-requires-clause-close
parts_leave-requires-clause-close c =
    let same : flat_map part_points c.as_slice.result.now ≡ vertices c.args.figure.now = ap (flat_map part_points) c.as_slice.ensures ∙ sym (flat_map-flat_map (λ (ring : Ring). ring.points) rings_of c.args.figure.now.parts) in
    subst (λ (points : List Point). AreBeside c.args.shape.now points) (sym same) c.requires.close

pub returns : goal.returns
returns c =
    let same : flat_map part_points c.as_slice.result.now ≡ vertices c.args.figure.now = ap (flat_map part_points) c.as_slice.ensures ∙ sym (flat_map-flat_map (λ (ring : Ring). ring.points) rings_of c.args.figure.now.parts) in
    subst (λ (points : List Point). IsTrue c.parts_leave.result ↔ SomeLeaves c.args.tolerance c.args.shape.now points) same c.parts_leave.ensures
