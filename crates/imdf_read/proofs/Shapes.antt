-- The rows of a file whose geometries are shapes, points or lines: they are sound, and have no more positions than are counted.
use Rattle.std.proofs.Common.{◌≡◌, ◌∙◌, ◌≢◌, ◌<◌, ◌≤◌, List, length, map, if◌then◌else◌, refl, sym, ap, subst, arith}
use Rattle.std.specs.Prelude.{All}
use Rattle.std.specs.List.{AllZip, flat_map}
use Rattle.std.proofs.lemmas.List.{length-map}
use Rattle.std.proofs.lemmas.List.Folds.{flat_map-map}
use Rattle.std.proofs.lemmas.List.Elements.{All-map}
use Rattle.venue_types.proofs.Zips.{zip_all}
use Rattle.exact_json.specs.Json.{Json}
use Rattle.venue_types.specs.declared.files.Files.{Files}
use Rattle.venue_types.specs.declared.point.Point.{Point}
use Rattle.venue_types.specs.declared.point.Shape.{Shape}
use Rattle.geo_shapes.specs.Geometry.{HasShape}
use Rattle.venue_types.specs.declared.folder_file.File.{File}
use Rattle.venue_types.specs.declared.folder_file.File.TheVariants as file
use Rattle.venue_types.specs.declared.folder_file.Geometry.{Geometry}
use Rattle.venue_types.specs.declared.folder_file.Geometry.TheVariants as kind
use Rattle.venue_types.specs.FolderFiles.{geometry_of}
use Rattle.imdf_schema.specs.Items.{geometry}
use Rattle.imdf_schema.specs.Contents.{content_items}
use Rattle.imdf_rows.specs.Folder.{AreRows}
use Rattle.imdf_schema.specs.declared.rules.Rule.TheVariants.{S3}
use Rattle.imdf_read.specs.Counts.{places_of, item_positions, file_positions, longest_ring}
use Rattle.plane_exact.specs.Figure.{vertices}
use Rattle.feature_rows.specs.Sound.{IsOnEarth, IsSoundShape}
use Rattle.imdf_read.proofs.Lists.{zip_places, zip_flat_all, zip_count, zip_flat_count}
use Rattle.imdf_read.proofs.Nothing.{FindsNothing, BreaksNone, item_keeps, is_judged_of}
use Rattle.imdf_read.proofs.ReadFigures.{shape_on_earth, shape_count, sound_shape}

-- the row is that of an item that breaks no rule
abbrev pub IsKept : {Row : Type 0} → File → (Json → Row → Type 0) → Json → Row → Type 0
IsKept f IsRow v row = BreaksNone f v × IsRow v row

pub kept_rows : {Row : Type 0} (IsRow : Json → Row → Type 0) (files : Files) (f : File) (rows : List Row) → FindsNothing files → f ≢ file.Manifest → (are : AreRows IsRow files f rows) → AllZip (IsKept f IsRow) (content_items are.content) rows
kept_rows IsRow files f rows none features are = zip_places (BreaksNone f) IsRow (content_items are.content) rows (λ k v at. item_keeps files f are.content none features are.held k v at) are.each

-- the positions of an item that breaks no rule are counted
pub item_counted : (f : File) (v : Json) → BreaksNone f v → item_positions f v ≡ length (places_of (geometry_of f) (geometry v))
item_counted f v keeps = ap (λ b. if b then length (places_of (geometry_of f) (geometry v)) else 0) (is_judged_of f v keeps)

pub all_kept : {Row : Type 0} (IsRow : Json → Row → Type 0) (Q : Row → Type 0) (files : Files) (f : File) (rows : List Row) → ((v : Json) (row : Row) → IsKept f IsRow v row → Q row)
    → FindsNothing files → f ≢ file.Manifest → AreRows IsRow files f rows → All Q rows
all_kept IsRow Q files f rows step none features are = zip_all (IsKept f IsRow) Q step (content_items are.content) rows (kept_rows IsRow files f rows none features are)

-- rows with a position each
pub points_counted : {Row : Type 0} (IsRow : Json → Row → Type 0) (point : Row → Point) (files : Files) (f : File) (rows : List Row) → geometry_of f ≡ kind.Point
    → FindsNothing files → f ≢ file.Manifest → (are : AreRows IsRow files f rows) → length (map point rows) ≤ file_positions f are.content
points_counted {Row} IsRow point files f rows points none features are =
    let one : (v : Json) (row : Row) → IsKept f IsRow v row → 1 ≤ item_positions f v = λ v row kept.
    let all = item_counted f v kept.0 in
    let single : length (places_of (geometry_of f) (geometry v)) ≡ 1 = ap (λ (g : Geometry). length (places_of g (geometry v))) points in
    omega arith in
    let few = zip_count (IsKept f IsRow) (item_positions f) one (content_items are.content) rows (kept_rows IsRow files f rows none features are) in
    let same : length (map point rows) ≡ length rows = length-map rows point in
    omega arith

-- rows with several
pub several_counted : {Row : Type 0} (IsRow : Json → Row → Type 0) (positions : Row → List Point) (files : Files) (f : File) (rows : List Row)
    → ((v : Json) (row : Row) → IsRow v row → length (positions row) ≡ length (places_of (geometry_of f) (geometry v)))
    → FindsNothing files → f ≢ file.Manifest → (are : AreRows IsRow files f rows) → length (flat_map positions rows) ≤ file_positions f are.content
several_counted IsRow positions files f rows same none features are = zip_flat_count (IsKept f IsRow) (item_positions f) positions
    (λ v row kept.
    let all = item_counted f v kept.0 in
    let long = same v row kept.1 in
    omega arith)
    (content_items are.content) rows (kept_rows IsRow files f rows none features are)

-- rows with a shape each
module _ {Row : Type 0} (IsRow : Json → Row → Type 0) (shape : Row → Shape) (has : (v : Json) (row : Row) → IsRow v row → HasShape (geometry v) (shape row)) (files : Files) (f : File) (rows : List Row)
    (is_shape : geometry_of f ≡ kind.Shape) (none : FindsNothing files) (features : f ≢ file.Manifest) (are : AreRows IsRow files f rows) where
  few_vertices : (v : Json) (row : Row) → IsRow v row → length (vertices (shape row)) ≡ length (places_of (geometry_of f) (geometry v))
  few_vertices v row is = shape_count (geometry v) (shape row) (has v row is) ∙ sym (ap (λ (g : Geometry). length (places_of g (geometry v))) is_shape)

  pub shapes_counted : length (flat_map vertices (map shape rows)) ≤ file_positions f are.content
  shapes_counted =
      let same : length (flat_map vertices (map shape rows)) ≡ length (flat_map (λ row. vertices (shape row)) rows) = ap length (flat_map-map vertices shape rows) in
      let few = several_counted IsRow (λ row. vertices (shape row)) files f rows few_vertices none features are in
      omega arith

  pub shapes_on_earth : All IsOnEarth (flat_map vertices (map shape rows))
  shapes_on_earth = subst (All IsOnEarth) (sym (flat_map-map vertices shape rows))
      (zip_flat_all (IsKept f IsRow) IsOnEarth (λ row. vertices (shape row)) (λ v row kept. shape_on_earth (geometry v) (shape row) (has v row kept.1)) (content_items are.content) rows (kept_rows IsRow files f rows none features are))

  sound : (v : Json) (row : Row) → IsKept f IsRow v row → IsSoundShape (shape row)
  sound v row kept =
      let many : ¬ (20000 < longest_ring (geometry_of f) (geometry v)) = λ h. kept.0 S3 0 (is_judged_of f v kept.0, h, refl) in
      let few : longest_ring (geometry_of f) (geometry v) ≤ 20000 = omega (arith, many) in
      sound_shape (geometry v) (shape row) (subst (λ (g : Geometry). longest_ring g (geometry v) ≤ 20000) is_shape few) (has v row kept.1)

  pub sound_shapes : All IsSoundShape (map shape rows)
  sound_shapes = All-map IsSoundShape shape rows (all_kept IsRow (λ row. IsSoundShape (shape row)) files f rows sound none features are)
