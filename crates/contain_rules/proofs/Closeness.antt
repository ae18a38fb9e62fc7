-- Positions beside a shape, and shapes whose positions lie close together.
use Rattle.std.proofs.Common.{◌≡◌, List, flat_map, refl, sym, subst, arith}
use Rattle.std.specs.Prelude.{Contains}
use Rattle.std.proofs.lemmas.List.Elements.{Contains-append_left}
use Rattle.venue_types.proofs.Items.{Contains-flat_map}
use Rattle.venue_types.specs.declared.features.Features.{Features}
use Rattle.venue_types.specs.declared.point.Point.{Point}
use Rattle.venue_types.specs.declared.point.Shape.{Shape}
use Rattle.venue_types.specs.declared.folder_file.File.{File}
use Rattle.venue_types.specs.declared.folder_file.File.TheVariants as file
use Rattle.venue_types.specs.FolderFiles.{feature_files}
use Rattle.plane_exact.specs.Figure.{AllClose, vertices}
use Rattle.feature_rows.specs.Figures.{shapes_of, positions_of, positions, judged_positions, display_of}
use Rattle.contain_rules.specs.Banding.{AreCloseShapes}
use Rattle.contain_rules.specs.Judging.{AreBeside}

-- fewer positions
pub beside_fewer : (shape : Shape) (xs ys : List Point) → AreBeside shape ys → ((p : Point) → Contains xs p → Contains ys p) → AreBeside shape xs
beside_fewer shape xs ys close within = record { beside = λ p h. close.beside p (within p h) }

-- ---- the shapes of levels and of units

-- a file whose positions are those of its shapes
record HasShapes (all : Features) (f : File) : Type 0 where
  listed : Contains feature_files f
  placed : positions_of f all ≡ flat_map vertices (shapes_of f all)

judged : (all : Features) (f : File) → HasShapes all f → (shape : Shape) → Contains (shapes_of f all) shape → (p : Point) → Contains (vertices shape) p → Contains (judged_positions all) p
judged all f has shape there p at =
    let in_file : Contains (positions_of f all) p = subst (λ (ps : List Point). Contains ps p) (sym has.placed) ((Contains-flat_map vertices (shapes_of f all) p).1 (shape, there, at)) in
    let in_all : Contains (positions all) p = (Contains-flat_map (λ (g : File). positions_of g all) feature_files p).1 (f, has.listed, in_file) in
    Contains-append_left (positions all) (flat_map display_of all.units) p in_all

close_file : (all : Features) → AllClose (judged_positions all) → (f : File) → HasShapes all f → AreCloseShapes (shapes_of f all)
close_file all close f has = record {
  close = λ shape there. record { close = λ p q at_p at_q. close.close p q (judged all f has shape there p at_p) (judged all f has shape there q at_q) };
}

pub close_levels : (all : Features) → AllClose (judged_positions all) → AreCloseShapes (shapes_of file.Level all)
close_levels all close = close_file all close file.Level (record { listed = (9, omega arith, refl); placed = refl })

pub close_units : (all : Features) → AllClose (judged_positions all) → AreCloseShapes (shapes_of file.Unit all)
close_units all close = close_file all close file.Unit (record { listed = (14, omega arith, refl); placed = refl })
