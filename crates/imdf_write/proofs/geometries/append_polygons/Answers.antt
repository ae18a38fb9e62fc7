-- The pieces one behind the other are the text of the geometry: no part and several parts are a MultiPolygon.
use Rattle.std.proofs.Common.{◌≡◌, ◌≢◌, ◌∙◌, List, [], ◌∷◌, length, codes, refl, ap}
use Rattle.exact_json.specs.Json.{Json}
use Rattle.json_text.specs.Drafts.{onto}
use Rattle.json_text.specs.Compact.{compact}
use Rattle.venue_types.specs.declared.point.Part.{Part}
use Rattle.imdf_write.specs.Values.{geometry_value, list_value, part_value, parts_value}
use Rattle.imdf_write.proofs.Pieces.{geometry_shape}
use Rattle.imdf_write.proofs.geometries.append_polygons.Goals as goal

not_one : (parts : List Part) → length parts ≢ 1 → geometry_value (codes "MultiPolygon") (list_value part_value parts) ≡ parts_value parts
not_one [] h = refl
not_one (x ∷ []) h = absurd (h refl)
not_one (x ∷ y ∷ parts) h = refl

pub returns : goal.returns
returns c =
    rw (c.append-2.ensures, c.append_list.ensures, c.append.ensures)
    (geometry_shape c.args.out.now (codes "{\"coordinates\":") (compact (list_value part_value c.args.parts.now)) (codes ",\"type\":\"MultiPolygon\"") (125 ∷ [])
    ∙ ap (λ (v : Json). onto c.args.out.now (compact v)) (not_one c.args.parts.now c.requires))
