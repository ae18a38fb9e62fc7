-- How many corners there are at most, as rows and as what they name, and that each unit lies within reach of itself.
use Rattle.std.proofs.Common.{◌≡◌, ℕ, suc, ◌+◌, ◌≤◌, Bool, true, false, cond, List, [], ◌∷◌, ◌++◌, map, filter, flat_map, length, All, refl, ap, sym, ◌∙◌, inl, inr, arith, length-append}
use Rattle.std.specs.Prelude.{Contains}
use Rattle.std.proofs.lemmas.List.{length-replicate}
use Rattle.venue_types.proofs.Items.{Contains-nil, Contains-cons_cases}
use Rattle.venue_types.specs.declared.features.Features.{Features}
use Rattle.venue_types.specs.declared.features.UnitRow.{UnitRow}
use Rattle.venue_types.specs.declared.folder_file.File.{File}
use Rattle.venue_types.specs.declared.folder_file.File.TheVariants as file
use Rattle.venue_types.specs.declared.point.Point.{Point}
use Rattle.venue_types.specs.declared.settings.Inside.{Inside}
use Rattle.venue_types.specs.declared.settings.Inside.TheVariants as inside
use Rattle.venue_types.specs.declared.settings.Settings.{Settings}
use Rattle.venue_types.specs.FolderFiles.{feature_files}
use Rattle.plane_exact.specs.Corners.{corners}
use Rattle.plane_exact.specs.Figure.{AllClose, AllNearby, vertices}
use Rattle.plane_exact.proofs.NearbyLemmas.{AllNearby-fewer, all_nearby}
use Rattle.plane_exact.proofs.CornerCounts.{corners_few}
use Rattle.feature_rows.specs.Figures.{positions_of, judged_positions}
use Rattle.feature_rows.specs.Sound.{AreSound}
use Rattle.venue_nodes.specs.Naming.{can_walk, corner_names, named_by_corners}
use Rattle.venue_nodes.specs.Nodes.{carries, corner_points, corner_rows, corner_rows_from, room_corners}
use Rattle.venue_nodes.proofs.Judged.{all_of, unit_vertex, listed_unit}

-- ---- within reach

pub near_units : (features : Features) → AllClose (judged_positions features) → All (λ (row : UnitRow). AllNearby (vertices row.shape)) features.units
near_units features close = all_of (λ (row : UnitRow). AllNearby (vertices row.shape)) features.units (λ row own.
    AllNearby-fewer (vertices row.shape) (judged_positions features) (λ p h. unit_vertex features row p own h) (all_nearby (judged_positions features) close))

-- ---- lists in lists

one_of : {X Y : Type 0} (f : X → List Y) (xs : List X) (x : X) → Contains xs x → length (f x) ≤ length (flat_map f xs)
one_of f [] x h = absurd (Contains-nil x h)
one_of {X} f (y ∷ ys) x h = elim (Contains-cons_cases y ys x h) [
  | inl here ↦ let e : length (f y) ≡ length (f x) = ap (λ (z : X). length (f z)) here in omega (arith, e, length-append (f y) (flat_map f ys))
  | inr there ↦ omega (arith, one_of f ys x there, length-append (f y) (flat_map f ys))
]

kept_shorter : {X Y Z : Type 0} (b : Bool) (f : X → List Y) (g : X → List Z) (x : X) (kept all : List X)
    → length (f x) ≤ length (g x) → length (flat_map f kept) ≤ length (flat_map g all) → length (flat_map f (cond b (x ∷ kept) kept)) ≤ length (flat_map g (x ∷ all))
kept_shorter true f g x kept all h k = omega (arith, length-append (f x) (flat_map f kept), length-append (g x) (flat_map g all))
kept_shorter false f g x kept all h k = omega (arith, length-append (g x) (flat_map g all))

all_shorter : {X Y Z : Type 0} (test : X → Bool) (f : X → List Y) (g : X → List Z) (xs : List X) → ((x : X) → length (f x) ≤ length (g x)) → length (flat_map f (filter test xs)) ≤ length (flat_map g xs)
all_shorter test f g [] h = omega arith
all_shorter test f g (x ∷ xs) h = kept_shorter (test x) f g x (filter test xs) xs (h x) (all_shorter test f g xs h)

as_many : {X Y Z : Type 0} (f : X → List Y) (g : X → List Z) (xs : List X) → ((x : X) → length (f x) ≡ length (g x)) → length (flat_map f xs) ≡ length (flat_map g xs)
as_many f g [] h = refl
as_many f g (x ∷ xs) h = omega (arith, h x, as_many f g xs h, length-append (f x) (flat_map f xs), length-append (g x) (flat_map g xs))

of_map : {X Y Z : Type 0} (f : Y → List Z) (g : X → Y) (xs : List X) → flat_map f (map g xs) ≡ flat_map (λ x. f (g x)) xs
of_map f g [] = refl
of_map {X} {Y} {Z} f g (x ∷ xs) = ap (λ (zs : List Z). f (g x) ++ zs) (of_map f g xs)

-- ---- of one unit

pub rows_long : (row : UnitRow) (n : ℕ) (points : List Point) → length (corner_rows_from row n points) ≡ length points
rows_long row n [] = refl
rows_long row n (p ∷ ps) = ap suc (rows_long row (n + 1) ps)

unless_carried : (b : Bool) (points : List Point) (n : ℕ) → length points ≤ n → length (cond b [] points) ≤ n
unless_carried true points n h = omega arith
unless_carried false points n h = h

pub points_few : (inside : Inside) (row : UnitRow) → length (corner_points inside row) ≤ length (vertices row.shape)
points_few inside.Straight row = omega arith
points_few inside.Clear row = unless_carried (carries row) (corners row.shape) (length (vertices row.shape)) (corners_few row.shape)

rows_few : (inside : Inside) (row : UnitRow) → length (corner_rows inside row) ≤ length (vertices row.shape)
rows_few inside row = omega (arith, points_few inside row, rows_long row 1 (corner_points inside row))

names_long : (inside : Inside) (row : UnitRow) → length (corner_names inside row) ≡ length (corner_rows inside row)
names_long inside row = length-replicate (length (corner_points inside row)) (row.id ∷ []) ∙ sym (rows_long row 1 (corner_points inside row))

-- ---- of all

few_vertices : (features : Features) → AreSound features → length (flat_map (λ (row : UnitRow). vertices row.shape) features.units) ≤ 1000000
few_vertices features sound =
    let one = one_of (λ (f : File). positions_of f features) feature_files file.Unit listed_unit in
    let few = sound.few_positions in
    let same = ap (λ (points : List Point). length points) (of_map vertices (λ (row : UnitRow). row.shape) features.units) in
    omega (arith, one, few, same)

pub few_points : (features : Features) → AreSound features → All (λ (row : UnitRow). length (vertices row.shape) ≤ 1000000) features.units
few_points features sound = all_of (λ (row : UnitRow). length (vertices row.shape) ≤ 1000000) features.units (λ row own.
    let one = one_of (λ (r : UnitRow). vertices r.shape) features.units row own in
    let few = few_vertices features sound in
    omega arith)

pub few_room_corners : (features : Features) (settings : Settings) → AreSound features → length (room_corners features settings) ≤ 1000000
unfolding room_corners
few_room_corners features settings sound =
    let fewer = all_shorter can_walk (corner_rows settings.inside) (λ (row : UnitRow). vertices row.shape) features.units (rows_few settings.inside) in
    let few = few_vertices features sound in
    omega arith

pub names_many : (inside : Inside) (units : List UnitRow) → length (named_by_corners inside units) ≡ length (flat_map (corner_rows inside) (filter can_walk units))
unfolding named_by_corners
names_many inside units = as_many (corner_names inside) (corner_rows inside) (filter can_walk units) (names_long inside)
