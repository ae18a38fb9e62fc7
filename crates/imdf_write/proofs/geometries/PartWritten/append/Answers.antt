-- The border and the holes stand between brackets.
use Rattle.std.proofs.Common.{[], ◌∷◌, map}
use Rattle.json_text.specs.Compact.{compact, more_items}
use Rattle.imdf_write.specs.Values.{items_of, ring_value}
use Rattle.imdf_write.proofs.Pieces.{enclosed}
use Rattle.imdf_write.proofs.geometries.PartWritten.append.Goals as goal

pub returns : goal.returns
returns c =
    rw (c.push-2.ensures, c.append_more.ensures, c.as_slice.ensures, c.append.ensures, c.push.ensures)
    (enclosed c.args.out.now 91 (compact (ring_value c.args.self.now.outer)) (more_items (items_of (map ring_value c.args.self.now.holes))) (93 ∷ []))
