-- The pieces one behind the other are the text of the feature.
use Rattle.std.proofs.Common.{[], ◌∷◌, codes}
use Rattle.json_text.specs.Compact.{compact}
use Rattle.imdf_write.specs.Values.{id_value, list_value, shape_value}
use Rattle.imdf_write.proofs.Pieces.{feature_of_pieces}
use Rattle.imdf_write.proofs.rows.FootprintRowCanonical.append.Goals as goal

pub returns : goal.returns
returns c =
    rw (c.end.ensures, c.append_list.ensures, c.as_slice.ensures, c.append.ensures, c.identify.ensures, c.append_shape.ensures, c.begin.ensures)
    (feature_of_pieces c.args.out.now c.args.file (compact (shape_value c.args.self.now.shape)) c.args.self.now.id
    (codes "\"building_ids\":"
    ∷ compact (list_value id_value c.args.self.now.buildings)
    ∷ []))
