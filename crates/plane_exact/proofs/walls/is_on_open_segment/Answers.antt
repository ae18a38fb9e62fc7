use Rattle.std.proofs.Common.{◌≡◌, ◌<ℤ◌, pos, to_z, of_z, w64, arith}
use Rattle.std.proofs.lemmas.Int.{ints}
use Rattle.plane_exact.specs.Plane.{side, along, squared_distance}
use Rattle.plane_exact.proofs.SegmentLemmas.{lt_test}
use Rattle.plane_exact.proofs.walls.is_on_open_segment.Goals as goal

pub returns-then-along-gt0 : goal.returns-then-along-gt0
returns-then-along-gt0 c =
    let on_line : side c.args.a c.args.b c.args.v ≡ pos 0 = omega (arith, ints) in
    let beyond : pos 0 <ℤ along c.args.a c.args.b c.args.v = omega (arith, ints) in
    let first : to_z w64 (of_z w64 c.scalar_product-along.result) ≡ along c.args.a c.args.b c.args.v = omega (arith, ints) in
    let second : to_z w64 (of_z w64 c.square_between.result) ≡ squared_distance c.args.a c.args.b = omega (arith, ints) in
    let decides = lt_test _ _ _ _ first second in
    (λ h. record { on_line = on_line; beyond_start = beyond; before_end = decides.0 h }, λ s. decides.1 s.before_end)
