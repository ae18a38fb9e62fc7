-- Where all judged positions are close, each is close to the shapes of levels and of units.
use Rattle.std.proofs.Common.{List, [], ◌∷◌, map, flat_map, refl, subst, arith, inl, inr}
use Rattle.std.specs.Prelude.{Contains}
use Rattle.std.proofs.lemmas.List.Elements.{Contains-append_left, Contains-append_cases}
use Rattle.venue_types.proofs.Items.{Contains-only, Contains-flat_map}
use Rattle.venue_types.specs.declared.features.Features.{Features}
use Rattle.venue_types.specs.declared.features.AmenityRow.{AmenityRow}
use Rattle.venue_types.specs.declared.features.AnchorRow.{AnchorRow}
use Rattle.venue_types.specs.declared.features.LevelRow.{LevelRow}
use Rattle.venue_types.specs.declared.features.OpeningRow.{OpeningRow}
use Rattle.venue_types.specs.declared.features.UnitRow.{UnitRow}
use Rattle.venue_types.specs.declared.point.Point.{Point}
use Rattle.venue_types.specs.declared.point.Shape.{Shape}
use Rattle.venue_types.specs.declared.folder_file.File.{File}
use Rattle.venue_types.specs.declared.folder_file.File.TheVariants as file
use Rattle.venue_types.specs.FolderFiles.{feature_files}
use Rattle.plane_exact.specs.Figure.{AllClose, vertices}
use Rattle.feature_rows.specs.Figures.{positions, positions_of, judged_positions, display_of}
use Rattle.feature_rows.proofs.Lists.{Contains-map}

-- each position of a file is judged
judged : (features : Features) (f : File) (p : Point) → Contains feature_files f → Contains (positions_of f features) p → Contains (judged_positions features) p
judged features f p listed h = Contains-append_left (positions features) (flat_map display_of features.units) p
    ((Contains-flat_map (λ (g : File). positions_of g features) feature_files p).1 (f, listed, h))

level_vertex : (features : Features) (level : LevelRow) (p : Point) → Contains features.levels level → Contains (vertices level.shape) p → Contains (judged_positions features) p
level_vertex features level p own h = judged features file.Level p (9, omega arith, refl)
    ((Contains-flat_map vertices (map (λ (row : LevelRow). row.shape) features.levels) p).1 (level.shape, Contains-map (λ (row : LevelRow). row.shape) features.levels level own, h))

pub unit_vertex : (features : Features) (unit : UnitRow) (p : Point) → Contains features.units unit → Contains (vertices unit.shape) p → Contains (judged_positions features) p
unit_vertex features unit p own h = judged features file.Unit p (14, omega arith, refl)
    ((Contains-flat_map vertices (map (λ (row : UnitRow). row.shape) features.units) p).1 (unit.shape, Contains-map (λ (row : UnitRow). row.shape) features.units unit own, h))

pub anchor_point : (features : Features) (anchor : AnchorRow) → Contains features.anchors anchor → Contains (judged_positions features) anchor.point
anchor_point features anchor own = judged features file.Anchor anchor.point (2, omega arith, refl) (Contains-map (λ (row : AnchorRow). row.point) features.anchors anchor own)

pub amenity_point : (features : Features) (amenity : AmenityRow) → Contains features.amenities amenity → Contains (judged_positions features) amenity.point
amenity_point features amenity own = judged features file.Amenity amenity.point (1, omega arith, refl) (Contains-map (λ (row : AmenityRow). row.point) features.amenities amenity own)

pub opening_point : (features : Features) (opening : OpeningRow) (p : Point) → Contains features.openings opening → Contains opening.line.points p → Contains (judged_positions features) p
opening_point features opening p own h = judged features file.Opening p (11, omega arith, refl) ((Contains-flat_map (λ (row : OpeningRow). row.line.points) features.openings p).1 (opening, own, h))

-- a position and a shape, all of them judged
beside : (all : List Point) (shape : Shape) (p : Point) → AllClose all → ((q : Point) → Contains (vertices shape) q → Contains all q) → Contains all p → AllClose (p ∷ vertices shape)
beside all shape p close within own =
    let from : (q : Point) → Contains (p ∷ vertices shape) q → Contains all q = λ q h. elim (Contains-append_cases (p ∷ []) (vertices shape) q h) [
      | inl same ↦ subst (λ (w : Point). Contains all w) (Contains-only p q same) own
      | inr there ↦ within q there
    ] in
    record { close = λ a b h k. close.close a b (from a h) (from b k) }

pub beside_level : (features : Features) (p : Point) (level : LevelRow) → AllClose (judged_positions features) → Contains (judged_positions features) p → Contains features.levels level → AllClose (p ∷ vertices level.shape)
beside_level features p level close own has = beside (judged_positions features) level.shape p close (λ q h. level_vertex features level q has h) own

pub beside_unit : (features : Features) (p : Point) (unit : UnitRow) → AllClose (judged_positions features) → Contains (judged_positions features) p → Contains features.units unit → AllClose (p ∷ vertices unit.shape)
beside_unit features p unit close own has = beside (judged_positions features) unit.shape p close (λ q h. unit_vertex features unit q has h) own
