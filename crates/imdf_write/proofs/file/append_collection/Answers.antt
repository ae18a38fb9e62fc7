-- The pieces one behind the other are the text of the collection.
use Rattle.std.proofs.Common.{[], ◌∷◌, codes, map}
use Rattle.json_text.specs.Compact.{first_items}
use Rattle.imdf_write.specs.Values.{items_of}
use Rattle.imdf_write.proofs.Pieces.{collection_shape}
use Rattle.imdf_write.proofs.file.append_collection.Goals as goal

pub returns : goal.returns
returns g c =
    rw (c.append-2.ensures, c.append_features.ensures, c.append.ensures)
    (collection_shape c.args.out.now (codes "{\"features\":[") (first_items (items_of (map (g.R.Canonical.feature c.args.file) c.args.rows.now)))
    (93 ∷ []) (codes ",\"type\":\"FeatureCollection\"") (125 ∷ []))
