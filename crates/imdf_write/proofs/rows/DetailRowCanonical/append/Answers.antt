-- The pieces one behind the other are the text of the feature.
use Rattle.std.proofs.Common.{[], ◌∷◌, codes}
use Rattle.exact_json.specs.Json.{null}
use Rattle.json_text.specs.Compact.{compact}
use Rattle.imdf_write.specs.Values.{id_value, or_null}
use Rattle.imdf_write.proofs.Pieces.{feature_of_pieces}
use Rattle.imdf_write.proofs.rows.DetailRowCanonical.append.Goals as goal

pub returns : goal.returns
returns c =
    rw (c.end.ensures, c.append_or_null.ensures, c.append-2.ensures, c.identify.ensures, c.append.ensures, c.begin.ensures)
    (feature_of_pieces c.args.out.now c.args.file (compact null) c.args.self.now.id
    (codes "\"level_id\":"
    ∷ compact (or_null id_value c.args.self.now.level)
    ∷ []))
