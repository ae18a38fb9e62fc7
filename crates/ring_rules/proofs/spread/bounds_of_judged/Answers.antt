use Rattle.std.proofs.Common.{List, flat_map, subst}
use Rattle.std.proofs.lemmas.List.Concat.{flat_map_single}
use Rattle.venue_types.specs.declared.features.AmenityRow.{AmenityRow}
use Rattle.venue_types.specs.declared.features.AnchorRow.{AnchorRow}
use Rattle.venue_types.specs.declared.features.UnitRow.{UnitRow}
use Rattle.venue_types.specs.declared.point.Point.{Point}
use Rattle.venue_types.specs.declared.folder_file.File.TheVariants as file
use Rattle.feature_rows.specs.Figures.{positions_of, display_of}
use Rattle.ring_rules.specs.Bounds.{AreBounds}
use Rattle.ring_rules.proofs.BoundsLemmas.{regroup}
use Rattle.ring_rules.proofs.spread.bounds_of_judged.Goals as goal

pub returns : goal.returns
returns c =
    let all = c.args.features.now in
    let amenity : AreBounds (positions_of file.Amenity all) c.bounds_of.result = subst (λ (points : List Point). AreBounds points c.bounds_of.result) (flat_map_single (λ (row : AmenityRow). row.point) all.amenities) c.bounds_of.ensures in
    let anchor : AreBounds (positions_of file.Anchor all) c.bounds_of-2.result = subst (λ (points : List Point). AreBounds points c.bounds_of-2.result) (flat_map_single (λ (row : AnchorRow). row.point) all.anchors) c.bounds_of-2.ensures in
    let fixture : AreBounds (positions_of file.Fixture all) c.bounds_of_shapes.result = c.bounds_of_shapes.ensures in
    let footprint : AreBounds (positions_of file.Footprint all) c.bounds_of_shapes-2.result = c.bounds_of_shapes-2.ensures in
    let level : AreBounds (positions_of file.Level all) c.bounds_of_shapes-3.result = c.bounds_of_shapes-3.ensures in
    let opening : AreBounds (positions_of file.Opening all) c.bounds_of-3.result = c.bounds_of-3.ensures in
    let unit : AreBounds (positions_of file.Unit all) c.bounds_of_shapes-4.result = c.bounds_of_shapes-4.ensures in
    let venue : AreBounds (positions_of file.Venue all) c.bounds_of_shapes-5.result = c.bounds_of_shapes-5.ensures in
    subst (λ (points : List Point). AreBounds points c.join-8.result)
    (regroup (positions_of file.Amenity all) (positions_of file.Anchor all) (positions_of file.Fixture all) (positions_of file.Footprint all) (positions_of file.Level all) (positions_of file.Opening all) (positions_of file.Unit all) (positions_of file.Venue all) (flat_map display_of all.units))
    (c.join-8.ensures _ _ (c.join-7.ensures _ _ (c.join-6.ensures _ _ (c.join-5.ensures _ _ (c.join-4.ensures _ _ (c.join-3.ensures _ _ (c.join-2.ensures _ _ (c.join.ensures _ _ amenity anchor) fixture) footprint) level) opening) unit) venue) (subst (λ (units : List UnitRow). AreBounds (flat_map display_of units) c.bounds_of_displays.result) c.as_slice.ensures c.bounds_of_displays.ensures))
