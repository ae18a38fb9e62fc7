-- The pieces one behind the other are the text of the feature.
use Rattle.std.proofs.Common.{[], ◌∷◌, codes}
use Rattle.exact_json.specs.Json.{text}
use Rattle.json_text.specs.Compact.{compact}
use Rattle.imdf_write.specs.Values.{id_value, list_value, name_value, or_null, point_value}
use Rattle.imdf_write.proofs.Pieces.{feature_of_pieces}
use Rattle.imdf_write.proofs.rows.AmenityRowCanonical.append.Goals as goal

pub returns : goal.returns
returns c =
    rw (
      c.end.ensures,
      c.append_list.ensures,
      c.as_slice-2.ensures,
      c.append-4.ensures,
      c.append_name.ensures,
      c.as_slice.ensures,
      c.append-3.ensures,
      c.append_text.ensures,
      c.append-2.ensures,
      c.append_or_null.ensures,
      c.append.ensures,
      c.identify.ensures,
      c.append_point.ensures,
      c.begin.ensures,
    )
    (feature_of_pieces c.args.out.now c.args.file (compact (point_value c.args.self.now.point)) c.args.self.now.id
    (codes "\"address_id\":"
    ∷ compact (or_null id_value c.args.self.now.address)
    ∷ codes ",\"category\":"
    ∷ compact (text c.args.self.now.category)
    ∷ codes ",\"name\":"
    ∷ compact (name_value c.args.self.now.name)
    ∷ codes ",\"unit_ids\":"
    ∷ compact (list_value id_value c.args.self.now.units)
    ∷ []))
