-- The pieces one behind the other are the text of the geometry.
use Rattle.std.proofs.Common.{[], ◌∷◌, codes}
use Rattle.json_text.specs.Compact.{compact}
use Rattle.imdf_write.specs.Values.{part_value}
use Rattle.imdf_write.proofs.Pieces.{geometry_shape}
use Rattle.imdf_write.proofs.geometries.append_polygon.Goals as goal

pub returns : goal.returns
returns c =
    rw (c.append-3.ensures, c.append-2.ensures, c.append.ensures)
    (geometry_shape c.args.out.now (codes "{\"coordinates\":") (compact (part_value c.args.part.now)) (codes ",\"type\":\"Polygon\"") (125 ∷ []))
