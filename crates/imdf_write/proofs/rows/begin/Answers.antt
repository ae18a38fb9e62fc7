-- The pieces one behind the other are what stands in front of the geometry.
use Rattle.std.proofs.Common.{codes}
use Rattle.json_text.specs.Compact.{quoted}
use Rattle.venue_types.specs.FolderFiles.{type_name}
use Rattle.imdf_write.proofs.Pieces.{three_from_left}
use Rattle.imdf_write.proofs.rows.begin.Goals as goal

pub returns : goal.returns
returns c =
    rw (c.append-2.ensures, c.append_quoted.ensures, c.type_name.ensures, c.append.ensures)
    (three_from_left c.args.out.now (codes "{\"feature_type\":") (quoted (type_name c.args.file)) (codes ",\"geometry\":"))
