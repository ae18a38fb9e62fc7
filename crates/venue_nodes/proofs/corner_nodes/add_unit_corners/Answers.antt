use Rattle.std.proofs.Common.{All, List, sym, subst, ◌∙◌}
use Rattle.venue_types.specs.declared.point.Point.{Point}
use Rattle.feature_rows.specs.Sound.{IsOnEarth}
use Rattle.venue_nodes.proofs.CornerSteps.{corners_earth, points_here, range_is}
use Rattle.venue_nodes.proofs.corner_nodes.add_unit_corners.Goals as goal

pub add_numbered-requires-clause-earth : goal.add_numbered-requires-clause-earth
add_numbered-requires-clause-earth c =
    subst (λ (points : List Point). All IsOnEarth points) (sym (c.as_slice.ensures ∙ c.in_ok-points.ensures)) (corners_earth c.args.inside c.args.unit.now c.requires.placed)

pub add_numbered-requires-clause-few : goal.add_numbered-requires-clause-few
add_numbered-requires-clause-few c = points_here c.args.inside c.args.unit.now c.as_slice.result.now _ (c.as_slice.ensures ∙ c.in_ok-points.ensures) c.requires.few

pub returns-clause-range : goal.returns-clause-range
returns-clause-range c =
    range_is c.args.inside c.args.unit.now c.as_slice.result.now c.args.nodes.now.items c.add_numbered.new.nodes.items c.len-start.result c.len.result
    (c.as_slice.ensures ∙ c.in_ok-points.ensures) c.in_ok-add_numbered.ensures (c.len-start.ensures ∙ c.args.nodes.now.ok.0) (c.len.ensures ∙ c.add_numbered.new.nodes.ok.0)
