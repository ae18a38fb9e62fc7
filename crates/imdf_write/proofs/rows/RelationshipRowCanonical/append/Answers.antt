-- The pieces one behind the other are the text of the feature.
use Rattle.std.proofs.Common.{[], ◌∷◌, codes}
use Rattle.exact_json.specs.Json.{null, text}
use Rattle.json_text.specs.Compact.{compact}
use Rattle.imdf_write.specs.Values.{direction_word, list_value, or_null, passage_word, reference_value}
use Rattle.imdf_write.proofs.Pieces.{feature_of_pieces}
use Rattle.imdf_write.proofs.rows.RelationshipRowCanonical.append.Goals as goal

pub returns : goal.returns
returns c =
    rw (
      c.end.ensures,
      c.append_or_null-2.ensures,
      c.append-8.ensures,
      c.append_list.ensures,
      c.as_slice.ensures,
      c.append-7.ensures,
      c.append-6.ensures,
      c.direction.ensures,
      c.append-5.ensures,
      c.append_or_null.ensures,
      c.append-4.ensures,
      c.append-3.ensures,
      c.passage.ensures,
      c.append-2.ensures,
      c.identify.ensures,
      c.append.ensures,
      c.begin.ensures,
    )
    (feature_of_pieces c.args.out.now c.args.file (compact null) c.args.self.now.id
    (codes "\"category\":"
    ∷ compact (text (passage_word c.args.self.now.kind))
    ∷ codes ",\"destination\":"
    ∷ compact (or_null reference_value c.args.self.now.destination)
    ∷ codes ",\"direction\":"
    ∷ compact (text (direction_word c.args.self.now.directed))
    ∷ codes ",\"intermediary\":"
    ∷ compact (list_value reference_value c.args.self.now.between)
    ∷ codes ",\"origin\":"
    ∷ compact (or_null reference_value c.args.self.now.origin)
    ∷ []))
