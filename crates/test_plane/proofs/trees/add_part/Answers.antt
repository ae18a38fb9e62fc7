use Rattle.std.proofs.Common.{[], ◌∷◌, flat_map, ap, ◌∙◌}
use Rattle.std.proofs.lemmas.List.Concat.{flat_map-append}
use Rattle.std.proofs.lemmas.List.Elements.{All-nil, All-append, All-same}
use Rattle.test_figures.specs.Boxes.{IsInBox}
use Rattle.plane_exact.specs.Figure.{part_points}
use Rattle.test_plane.proofs.trees.add_part.Goals as goal

pub returns : goal.returns
returns c =
    let old = c.args.parts.now.items in
    let part = c.in_ok-part.field-0 in
    All-same IsInBox _ _ (ap (flat_map part_points) c.in_ok-push.ensures.items ∙ flat_map-append part_points old (part ∷ []))
    (All-append IsInBox (flat_map part_points old) (flat_map part_points (part ∷ [])) c.requires (All-append IsInBox (part_points part) [] c.in_ok-part.ensures.inside (All-nil IsInBox)))
