use Rattle.std.proofs.Common.{sym, subst, Option, ℤ}
use Rattle.exact_json.specs.View.{tree_view}
use Rattle.geo_shapes.specs.Position.{half_turn}
use Rattle.geo_shapes.specs.Reading.{ReadsAngle}
use Rattle.geo_shapes.proofs.Positions.{angle_read}
use Rattle.geo_shapes.proofs.position.longitude.Goals as goal

pub returns-in-Some : goal.returns-in-Some
returns-in-Some c =
    let value = tree_view c.args.tree.now in
    let read = angle_read c.one_value_law.ensures value c.in-Some.token.now c.nano.result (sym c.in-Some.ensures) c.nano.ensures.value c.nano.ensures.form c.nano.ensures.size in
    let P : Option ℤ → Type 0 = ReadsAngle half_turn value in
    subst P (sym c.ok.ensures.value) read
