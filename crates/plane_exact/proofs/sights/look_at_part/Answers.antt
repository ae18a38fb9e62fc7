use Rattle.std.proofs.Common.{List, ap₂, ap, sym, ◌∙◌, subst}
use Rattle.venue_types.specs.declared.point.Ring.{Ring}
use Rattle.plane_exact.specs.Figure.{edges, ring_points, ring_edges}
use Rattle.plane_exact.specs.Looks.{FitsWay, joined_look, look_at}
use Rattle.plane_exact.proofs.LookLemmas.{fits_left, fits_right, look_at-append}
use Rattle.plane_exact.proofs.sights.look_at_part.Goals as goal

pub look_at_ring-requires : goal.look_at_ring-requires
look_at_ring-requires c = fits_left c.args.way c.args.part.now.outer.points (ring_points c.args.part.now.holes) c.requires

pub look_at_rings-requires : goal.look_at_rings-requires
look_at_rings-requires c =
    let P : List Ring → Type 0 = λ rings. FitsWay c.args.way (ring_points rings) in
    subst P (sym c.as_slice.ensures) (fits_right c.args.way c.args.part.now.outer.points (ring_points c.args.part.now.holes) c.requires)

pub returns : goal.returns
returns c =
    c.joined.ensures
    ∙ ap₂ joined_look c.look_at_ring.ensures (c.look_at_rings.ensures ∙ ap (λ (rings : List Ring). look_at c.args.way (ring_edges rings) (ring_points rings)) c.as_slice.ensures)
    ∙ sym (look_at-append c.args.way (edges c.args.part.now.outer.points) (ring_edges c.args.part.now.holes) c.args.part.now.outer.points (ring_points c.args.part.now.holes))
