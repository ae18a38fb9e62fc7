use Rattle.std.proofs.Common.{◌≡◌, Bool, ◌↔◌, IsTrue, List, flat_map, ap, ap₂, ◌∙◌, subst, sym, arith}
use mathlib.Core.Path.{subst₂}
use Rattle.venue_types.specs.declared.point.Point.{Point}
use Rattle.venue_types.specs.declared.point.Ring.{Ring}
use Rattle.plane_exact.specs.declared.sights.Way.{Way}
use Rattle.plane_exact.specs.Figure.{Edge, edges, rings_of, part_points, part_edges, vertices, all_edges}
use Rattle.plane_exact.specs.Sight.{Sight, at_spot}
use Rattle.plane_exact.specs.Seeing.{does_see}
use Rattle.plane_exact.specs.Looks.{FitsWay, way_between, look_at, is_free}
use Rattle.plane_exact.proofs.ListLemmas.{flat_map-flat_map}
use Rattle.plane_exact.proofs.SightLaw.{sight_decides}
use Rattle.plane_exact.proofs.LookLemmas.{way_fits, free_look}
use Rattle.plane_exact.proofs.sights.sight.Goals as goal

pub way_of-requires-clause-start : goal.way_of-requires-clause-start
way_of-requires-clause-start c = c.requires.range 0 (at_spot c.args.a) (omega arith)

pub way_of-requires-clause-end : goal.way_of-requires-clause-end
way_of-requires-clause-end c = c.requires.range 1 (at_spot c.args.a) (omega arith)

pub look_at_parts-requires : goal.look_at_parts-requires
look_at_parts-requires c =
    let same : flat_map part_points c.as_slice.result.now ≡ vertices c.args.shape.now = ap (flat_map part_points) c.as_slice.ensures ∙ sym (flat_map-flat_map (λ (ring : Ring). ring.points) rings_of c.args.shape.now.parts) in
    subst₂ (λ (way : Way) (points : List Point). FitsWay way points) (sym c.way_of.ensures) (sym same) (way_fits c.args.a c.args.b c.args.shape.now c.args.t c.requires.near c.requires.range c.requires.tolerance)

pub returns : goal.returns
returns c =
    let points : flat_map part_points c.as_slice.result.now ≡ vertices c.args.shape.now = ap (flat_map part_points) c.as_slice.ensures ∙ sym (flat_map-flat_map (λ (ring : Ring). ring.points) rings_of c.args.shape.now.parts) in
    let list : flat_map part_edges c.as_slice.result.now ≡ all_edges c.args.shape.now = ap (flat_map part_edges) c.as_slice.ensures ∙ sym (flat_map-flat_map (λ (ring : Ring). edges ring.points) rings_of c.args.shape.now.parts) in
    let way = way_between c.args.a c.args.b c.args.t in
    let told : c.look_at_parts.result ≡ look_at way (all_edges c.args.shape.now) (vertices c.args.shape.now) =
    c.look_at_parts.ensures
    ∙ ap (λ (w : Way). look_at w (flat_map part_edges c.as_slice.result.now) (flat_map part_points c.as_slice.result.now)) c.way_of.ensures
    ∙ ap₂ (λ (l : List Edge) (p : List Point). look_at way l p) list points in
    let same : c.shows_sight.result ≡ does_see c.args.a c.args.b c.args.shape.now c.args.t = c.shows_sight.ensures ∙ ap is_free told ∙ free_look c.args.a c.args.b c.args.shape.now c.args.t in
    subst (λ (r : Bool). IsTrue r ↔ Sight c.args.a c.args.b c.args.shape.now c.args.t) (sym same) (sight_decides c.args.a c.args.b c.args.shape.now c.args.t)
