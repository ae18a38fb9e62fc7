use Rattle.std.proofs.Common.{◌≡◌, ◌-ℤ◌, to_z, of_z, w64, arith}
use Rattle.std.proofs.lemmas.Int.{ints}
use Rattle.plane_exact.proofs.LengthLemmas.{way_of_steps}
use Rattle.plane_exact.proofs.lengths.way_square.Goals as goal

pub returns-clause-value : goal.returns-clause-value
returns-clause-value c =
    let step_x : to_z w64 (of_z w64 c.args.b.x) -ℤ to_z w64 (of_z w64 c.args.a.x) ≡ c.args.b.x -ℤ c.args.a.x = omega (arith, ints) in
    let step_y : to_z w64 (of_z w64 c.args.b.y) -ℤ to_z w64 (of_z w64 c.args.a.y) ≡ c.args.b.y -ℤ c.args.a.y = omega (arith, ints) in
    way_of_steps c.args.a c.args.b c.args.kx c.args.ky _ _ _ _ step_x step_y c.stretch_square.ensures.value c.stretch_square-2.ensures.value
