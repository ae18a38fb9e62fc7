-- A tag, a colon and a text are added.
use Rattle.std.proofs.Common.{[], ◌∷◌}
use Rattle.json_text.specs.Compact.{quoted}
use Rattle.imdf_write.proofs.Pieces.{three}
use Rattle.imdf_write.proofs.names.append_label.Goals as goal

pub returns : goal.returns
returns c =
    rw (c.append_text-2.ensures, c.push.ensures, c.append_text.ensures)
    (three c.args.out.now (quoted c.args.label.now.tag) (58 ∷ []) (quoted c.args.label.now.text))
