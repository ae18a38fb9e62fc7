use Rattle.std.proofs.Common.{◌≡◌, [], ◌∷◌, false, IfOk, sym, ap, ◌∙◌, subst}
use Rattle.std.specs.Prelude.{if◌then◌else◌}
use Rattle.exact_json.specs.View.{tree_view}
use Rattle.geo_shapes.specs.Values.{listed}
use Rattle.geo_shapes.specs.Reading.{ReadsShape}
use Rattle.geo_shapes.specs.Geometry.{coordinates, is_multi, polygon_places}
use Rattle.geo_shapes.proofs.geometry.read_shape.Goals as goal

pub returns-else-is_multi : goal.returns-else-is_multi
returns-else-is_multi c =
    let geometry = tree_view c.args.tree.now in
    let single : is_multi geometry ≡ false = sym c.is_multi.ensures ∙ c.if-is_multi.false in
    let same : tree_view c.in-Some.value.now ∷ [] ≡ polygon_places geometry =
    ap (λ j. j ∷ []) c.in-Some.ensures ∙ ap (λ b. if b then listed (coordinates geometry) else (coordinates geometry ∷ [])) (sym single) in
    subst (λ places. IfOk c.single.result (ReadsShape places)) same c.single.ensures
