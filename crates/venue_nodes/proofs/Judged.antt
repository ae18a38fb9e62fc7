-- The positions from which nodes are made are judged ones, and so lie on the earth.
use Rattle.std.proofs.Common.{List, All, map, flat_map, get_or, refl, arith}
use Rattle.std.specs.Prelude.{Contains}
use Rattle.std.proofs.lemmas.List.Elements.{Contains-append_left, Contains-append_right, Contains-get_or, All-contains, All-append}
use Rattle.venue_types.proofs.Items.{at_member, member_at, at_map, Contains-flat_map}
use Rattle.venue_types.specs.declared.features.Features.{Features}
use Rattle.venue_types.specs.declared.features.AmenityRow.{AmenityRow}
use Rattle.venue_types.specs.declared.features.AnchorRow.{AnchorRow}
use Rattle.venue_types.specs.declared.features.OpeningRow.{OpeningRow}
use Rattle.venue_types.specs.declared.features.UnitRow.{UnitRow}
use Rattle.venue_types.specs.declared.point.Point.{Point}
use Rattle.venue_types.specs.declared.folder_file.File.{File}
use Rattle.venue_types.specs.declared.folder_file.File.TheVariants as file
use Rattle.venue_types.specs.FolderFiles.{feature_files}
use Rattle.plane_exact.specs.Figure.{vertices}
use Rattle.feature_rows.specs.Figures.{positions, positions_of, judged_positions, display_of}
use Rattle.feature_rows.specs.Sound.{AreSound, IsOnEarth}
use Rattle.venue_nodes.specs.Bounds.{IsPlaced}
use Rattle.venue_nodes.specs.Nodes.{amenity, anchor, opening, unit}

pub Contains-map : {X Y : Type 0} (f : X → Y) (xs : List X) (x : X) → Contains xs x → Contains (map f xs) (f x)
Contains-map f xs x h = let at = at_member xs x h in member_at (map f xs) at.0 (f x) (at_map f xs at.0 x at.1)

-- each position of a file is judged
judged : (features : Features) (f : File) (p : Point) → Contains feature_files f → Contains (positions_of f features) p → Contains (judged_positions features) p
judged features f p listed h = Contains-append_left (positions features) (flat_map display_of features.units) p
    ((Contains-flat_map (λ (g : File). positions_of g features) feature_files p).1 (f, listed, h))

pub amenity_point : (features : Features) (row : AmenityRow) → Contains features.amenities row → Contains (judged_positions features) row.point
amenity_point features row own = judged features file.Amenity row.point (1, omega arith, refl) (Contains-map (λ (r : AmenityRow). r.point) features.amenities row own)

pub anchor_point : (features : Features) (row : AnchorRow) → Contains features.anchors row → Contains (judged_positions features) row.point
anchor_point features row own = judged features file.Anchor row.point (2, omega arith, refl) (Contains-map (λ (r : AnchorRow). r.point) features.anchors row own)

pub opening_point : (features : Features) (row : OpeningRow) (p : Point) → Contains features.openings row → Contains row.line.points p → Contains (judged_positions features) p
opening_point features row p own h = judged features file.Opening p (11, omega arith, refl) ((Contains-flat_map (λ (r : OpeningRow). r.line.points) features.openings p).1 (row, own, h))

pub listed_unit : Contains feature_files file.Unit
listed_unit = (14, omega arith, refl)

pub unit_vertex : (features : Features) (row : UnitRow) (p : Point) → Contains features.units row → Contains (vertices row.shape) p → Contains (judged_positions features) p
unit_vertex features row p own h = judged features file.Unit p listed_unit
    ((Contains-flat_map vertices (map (λ (r : UnitRow). r.shape) features.units) p).1 (row.shape, Contains-map (λ (r : UnitRow). r.shape) features.units row own, h))

pub unit_display : (features : Features) (row : UnitRow) (p : Point) → Contains features.units row → Contains (display_of row) p → Contains (judged_positions features) p
unit_display features row p own h = Contains-append_right (positions features) (flat_map display_of features.units) p ((Contains-flat_map display_of features.units p).1 (row, own, h))

-- what holds of each item of a list
pub all_of : {X : Type 0} (P : X → Type 0) (xs : List X) → ((x : X) → Contains xs x → P x) → All P xs
all_of P xs h = λ k d within. h (get_or xs k d) (Contains-get_or xs k d within)

on_earth : (features : Features) → AreSound features → (p : Point) → Contains (judged_positions features) p → IsOnEarth p
on_earth features sound p h = All-contains IsOnEarth (judged_positions features) p sound.on_earth h

pub amenities_placed : (features : Features) → AreSound features → All (λ (row : AmenityRow). IsPlaced (amenity row)) features.amenities
amenities_placed features sound = all_of (λ (row : AmenityRow). IsPlaced (amenity row)) features.amenities (λ row own. on_earth features sound row.point (amenity_point features row own))

pub anchors_placed : (features : Features) → AreSound features → All (λ (row : AnchorRow). IsPlaced (anchor row)) features.anchors
anchors_placed features sound = all_of (λ (row : AnchorRow). IsPlaced (anchor row)) features.anchors (λ row own. on_earth features sound row.point (anchor_point features row own))

pub openings_placed : (features : Features) → AreSound features → All (λ (row : OpeningRow). IsPlaced (opening row)) features.openings
openings_placed features sound = all_of (λ (row : OpeningRow). IsPlaced (opening row)) features.openings (λ row own.
    all_of IsOnEarth row.line.points (λ p h. on_earth features sound p (opening_point features row p own h)))

pub units_placed : (features : Features) → AreSound features → All (λ (row : UnitRow). IsPlaced (unit row)) features.units
units_placed features sound = all_of (λ (row : UnitRow). IsPlaced (unit row)) features.units (λ row own.
    All-append IsOnEarth (vertices row.shape) (display_of row)
    (all_of IsOnEarth (vertices row.shape) (λ p h. on_earth features sound p (unit_vertex features row p own h)))
    (all_of IsOnEarth (display_of row) (λ p h. on_earth features sound p (unit_display features row p own h))))
