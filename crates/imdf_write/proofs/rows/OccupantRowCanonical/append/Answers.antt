-- The pieces one behind the other are the text of the feature.
use Rattle.std.proofs.Common.{[], ◌∷◌, codes}
use Rattle.exact_json.specs.Json.{null}
use Rattle.json_text.specs.Compact.{compact}
use Rattle.imdf_write.specs.Values.{id_value, name_value}
use Rattle.imdf_write.proofs.Pieces.{feature_of_pieces}
use Rattle.imdf_write.proofs.rows.OccupantRowCanonical.append.Goals as goal

pub returns : goal.returns
returns c =
    rw (
      c.end.ensures,
      c.append_name.ensures,
      c.as_slice.ensures,
      c.append-4.ensures,
      c.append-3.ensures,
      c.append-2.ensures,
      c.identify.ensures,
      c.append.ensures,
      c.begin.ensures,
    )
    (feature_of_pieces c.args.out.now c.args.file (compact null) c.args.self.now.id
    (codes "\"anchor_id\":"
    ∷ compact (id_value c.args.self.now.anchor)
    ∷ codes ",\"name\":"
    ∷ compact (name_value c.args.self.now.name)
    ∷ []))
