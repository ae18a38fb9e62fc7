-- The pieces one behind the other are the text of the feature.
use Rattle.std.proofs.Common.{[], ◌∷◌, codes}
use Rattle.json_text.specs.Compact.{compact}
use Rattle.imdf_write.specs.Values.{door_of, id_value, line_value, word_list}
use Rattle.imdf_write.proofs.Pieces.{feature_of_pieces}
use Rattle.imdf_write.proofs.rows.OpeningRowCanonical.append.Goals as goal

pub returns : goal.returns
returns c =
    rw (
      c.end.ensures,
      c.append-8.ensures,
      c.append-7.ensures,
      c.append-6.ensures,
      c.door.ensures,
      c.append-5.ensures,
      c.append-4.ensures,
      c.accessibility.ensures,
      c.append-3.ensures,
      c.append-2.ensures,
      c.access_control.ensures,
      c.append.ensures,
      c.identify.ensures,
      c.append_line.ensures,
      c.begin.ensures,
    )
    (feature_of_pieces c.args.out.now c.args.file (compact (line_value c.args.self.now.line)) c.args.self.now.id
    (codes "\"access_control\":"
    ∷ compact (word_list c.args.self.now.out (codes "outofservice"))
    ∷ codes ",\"accessibility\":"
    ∷ compact (word_list c.args.self.now.marked (codes "wheelchair"))
    ∷ codes ",\"door\":"
    ∷ compact (door_of c.args.self.now.revolving c.args.self.now.turnstile)
    ∷ codes ",\"level_id\":"
    ∷ compact (id_value c.args.self.now.level)
    ∷ []))
