use Rattle.std.proofs.Common.{arith, subst, Option, ℤ}
use Rattle.std.proofs.lemmas.Int.{ints}
use Rattle.exact_json.specs.View.{tree_view}
use Rattle.geo_shapes.specs.Position.{half_turn}
use Rattle.geo_shapes.specs.Reading.{ReadsAngle}
use Rattle.geo_shapes.proofs.Positions.{none_low, none_high, wider}
use Rattle.geo_shapes.proofs.position.latitude.Goals as goal

pub returns-in_default : goal.returns-in_default
returns-in_default c = none_high c.one_value_law.ensures (tree_view c.args.tree.now) c.in-Some.n c.in-Some.ensures (omega (arith, ints))

pub returns-in_default-2 : goal.returns-in_default-2
returns-in_default-2 c = none_low c.one_value_law.ensures (tree_view c.args.tree.now) c.in-Some.n c.in-Some.ensures (omega (arith, ints))

pub returns-in_default-3 : goal.returns-in_default-3
returns-in_default-3 c m a =
    let P : Option ℤ → Type 0 = ReadsAngle half_turn (tree_view c.args.tree.now) in
    subst P c.in_default.is c.longitude.ensures m (wider (tree_view c.args.tree.now) m a)
