-- The pieces one behind the other are the text of the feature.
use Rattle.std.proofs.Common.{[], ◌∷◌, codes}
use Rattle.exact_json.specs.Json.{text}
use Rattle.json_text.specs.Compact.{compact}
use Rattle.imdf_write.specs.Values.{id_value, if_so, name_value, or_null, point_value, shape_value}
use Rattle.imdf_write.proofs.Pieces.{feature_of_pieces}
use Rattle.imdf_write.proofs.rows.UnitRowCanonical.append.Goals as goal

pub returns : goal.returns
returns c =
    rw (
      c.end.ensures,
      c.append-7.ensures,
      c.restriction.ensures,
      c.append-6.ensures,
      c.append_name.ensures,
      c.as_slice.ensures,
      c.append-5.ensures,
      c.append-4.ensures,
      c.append-3.ensures,
      c.append_point_or_null.ensures,
      c.append-2.ensures,
      c.append_text.ensures,
      c.append.ensures,
      c.identify.ensures,
      c.append_shape.ensures,
      c.begin.ensures,
    )
    (feature_of_pieces c.args.out.now c.args.file (compact (shape_value c.args.self.now.shape)) c.args.self.now.id
    (codes "\"category\":"
    ∷ compact (text c.args.self.now.category)
    ∷ codes ",\"display_point\":"
    ∷ compact (or_null point_value c.args.self.now.display)
    ∷ codes ",\"level_id\":"
    ∷ compact (id_value c.args.self.now.level)
    ∷ codes ",\"name\":"
    ∷ compact (name_value c.args.self.now.name)
    ∷ codes ",\"restriction\":"
    ∷ compact (if_so c.args.self.now.restricted (text (codes "restricted")))
    ∷ []))
