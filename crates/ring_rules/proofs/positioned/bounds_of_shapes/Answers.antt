use Rattle.std.proofs.Common.{◌≡◌, ◌≤◌, ◌<◌, List, length, get_or, flat_map, sym, ap, subst, ◌∙◌}
use Rattle.std.proofs.lemmas.List.{take_all}
use Rattle.std.proofs.lemmas.List.Folds.{flat_map-map}
use Rattle.venue_types.specs.declared.point.Point.{Point}
use Rattle.venue_types.specs.declared.point.Shape.{Shape}
use Rattle.plane_exact.specs.Figure.{vertices}
use Rattle.ring_rules.specs.Bounds.{AreBounds}
use Rattle.ring_rules.proofs.BoundsLemmas.{flat_map_step}
use Rattle.ring_rules.proofs.positioned.bounds_of_shapes.Goals as goal

pub loop-row-preserved : goal.loop-row-preserved
loop-row-preserved g c =
    let step = flat_map_step (λ (row : g.row.R.Denot). vertices (g.R.HasShape.shape_of row)) c.args.rows.now c.loop-row.row-index c.row-item.result
    (subst (λ (rows : List g.row.R.Denot). c.loop-row.row-index < length rows) c.as_slice-row-items.ensures c.loop-row-test.true)
    (subst (λ (rows : List g.row.R.Denot). c.row-item.result ≡ get_or rows c.loop-row.row-index c.row-item.result) c.as_slice-row-items.ensures c.row-item.is) in
    subst (λ (points : List Point). AreBounds points c.join-bounds.result) (sym step)
    (c.join-bounds.ensures _ _ c.loop-row.invariant (subst (λ (shape : Shape). AreBounds (vertices shape) c.bounds.result) c.shape.ensures c.bounds.ensures))

pub returns : goal.returns
returns g c =
    let rows = c.args.rows.now in
    let past : length rows ≤ c.loop-row.row-index = subst (λ (list : List g.row.R.Denot). length list ≤ c.loop-row.row-index) c.as_slice-row-items.ensures c.loop-row-test.false in
    subst (λ (points : List Point). AreBounds points c.loop-row.bounds)
    (ap (flat_map (λ (row : g.row.R.Denot). vertices (g.R.HasShape.shape_of row))) (take_all c.loop-row.row-index rows past) ∙ sym (flat_map-map vertices g.R.HasShape.shape_of rows))
    c.loop-row.invariant
