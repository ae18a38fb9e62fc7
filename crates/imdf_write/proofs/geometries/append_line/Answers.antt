-- The pieces one behind the other are the text of the geometry.
use Rattle.std.proofs.Common.{[], ◌∷◌, codes}
use Rattle.json_text.specs.Compact.{compact}
use Rattle.imdf_write.specs.Values.{positions_value}
use Rattle.imdf_write.proofs.Pieces.{geometry_shape}
use Rattle.imdf_write.proofs.geometries.append_line.Goals as goal

pub returns : goal.returns
returns c =
    rw (c.append-2.ensures, c.append_list.ensures, c.as_slice.ensures, c.append.ensures)
    (geometry_shape c.args.out.now (codes "{\"coordinates\":") (compact (positions_value c.args.line.now.points)) (codes ",\"type\":\"LineString\"") (125 ∷ []))
