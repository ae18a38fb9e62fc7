-- The pieces one behind the other are what stands in front of the properties.
use Rattle.std.proofs.Common.{codes}
use Rattle.json_text.specs.Compact.{quoted}
use Rattle.venue_types.specs.Identifier.{identifier_text}
use Rattle.imdf_write.proofs.Pieces.{three_from_left}
use Rattle.imdf_write.proofs.rows.identify.Goals as goal

pub returns : goal.returns
returns c =
    rw (c.append-3.ensures, c.append-2.ensures, c.append.ensures)
    (three_from_left c.args.out.now (codes ",\"id\":") (quoted (identifier_text c.args.id)) (codes ",\"properties\":{"))
