use Rattle.std.proofs.Common.{List, ℕ, [], ◌∷◌, ◌++◌, map, ap, sym, refl, ◌∙◌}
use Rattle.std.proofs.lemmas.List.{map-append}
use Rattle.venue_types.specs.declared.feature_id.FeatureId.{FeatureId}
use Rattle.venue_types.specs.declared.features.AmenityRow.{AmenityRow}
use Rattle.venue_types.specs.declared.features.AnchorRow.{AnchorRow}
use Rattle.venue_types.specs.declared.features.UnitRow.{UnitRow}
use Rattle.venue_nodes.specs.Naming.{numbers, ids_at, named_by_corners}
use Rattle.venue_nodes.proofs.Items.{four_passes}
use Rattle.venue_nodes.proofs.named_units.named.Goals as goal

pub returns : goal.returns
returns c =
    let owns = c.args.walkables.now.ids.items in
    let features = c.args.features.now in
    let inside = c.args.inside in
    let touched = c.args.touches.now.rows in
    let places = map (λ (row : AmenityRow). row.units) features.amenities ++ map (λ (row : AnchorRow). row.unit ∷ []) features.anchors ++ map (ids_at features.units) touched ++ map (λ (id : FeatureId). id ∷ []) owns in
    let front = four_passes (numbers owns) (λ (row : AmenityRow). row.units) (λ (row : AnchorRow). row.unit ∷ []) (ids_at features.units) (λ (id : FeatureId). id ∷ [])
    features.amenities c.as_slice.result.now features.anchors c.as_slice-2.result.now touched c.as_slice-3.result.now owns owns
    c.new-lists.result c.add_amenities.new.lists c.add_anchors.new.lists c.add_openings.new.lists c.add_units.new.lists
    c.new-lists.ensures c.as_slice.ensures c.as_slice-2.ensures c.as_slice-3.ensures refl
    c.in_ok-add_amenities.ensures c.in_ok-add_anchors.ensures c.in_ok-add_openings.ensures c.in_ok-add_units.ensures in
    c.in_ok-add_corners.ensures
    ∙ ap (λ (lists : List (List ℕ)). lists ++ map (numbers owns) (named_by_corners inside c.as_slice-4.result.now)) front
    ∙ ap (λ (units : List UnitRow). map (numbers owns) places ++ map (numbers owns) (named_by_corners inside units)) c.as_slice-4.ensures
    ∙ sym (map-append (numbers owns) places (named_by_corners inside features.units))
