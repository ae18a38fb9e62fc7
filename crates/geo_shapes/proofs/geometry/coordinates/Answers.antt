use Rattle.std.proofs.Common.{ap, ◌∙◌}
use Rattle.exact_json.specs.Json.{member}
use Rattle.exact_json.specs.View.{tree_view}
use Rattle.geo_shapes.proofs.geometry.coordinates.Goals as goal

pub returns : goal.returns
returns c = c.member.ensures ∙ ap (λ name. member (tree_view c.args.tree.now) name) c.as_slice.ensures
