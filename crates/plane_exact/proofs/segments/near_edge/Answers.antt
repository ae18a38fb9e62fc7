use Rattle.std.proofs.Common.{◌≤ℤ◌, ◌<ℤ◌, pos, arith}
use Rattle.std.proofs.lemmas.Int.{ints}
use Rattle.plane_exact.specs.Plane.{along, squared_distance}
use Rattle.plane_exact.proofs.SegmentLemmas.{iff_along, near_before, near_beyond, near_beside}
use Rattle.plane_exact.proofs.segments.near_edge.Goals as goal

pub returns-then-along-le0 : goal.returns-then-along-le0
returns-then-along-le0 c =
    let before : along c.args.a c.args.b c.args.p ≤ℤ pos 0 = omega (arith, ints) in
    iff_along c.is_near_point.ensures (near_before c.args.p c.args.a c.args.b c.args.t before)

pub returns-then-square_between-along : goal.returns-then-square_between-along
returns-then-square_between-along c =
    let after : pos 0 <ℤ along c.args.a c.args.b c.args.p = omega (arith, ints) in
    let beyond : squared_distance c.args.a c.args.b ≤ℤ along c.args.a c.args.b c.args.p = omega (arith, ints) in
    iff_along c.is_near_point-then-square_between-along.ensures (near_beyond c.args.p c.args.a c.args.b c.args.t after beyond)

pub returns-else-square_between-along : goal.returns-else-square_between-along
returns-else-square_between-along c =
    let after : pos 0 <ℤ along c.args.a c.args.b c.args.p = omega (arith, ints) in
    let within : along c.args.a c.args.b c.args.p <ℤ squared_distance c.args.a c.args.b = omega (arith, ints) in
    iff_along c.is_near_line.ensures (near_beside c.args.p c.args.a c.args.b c.args.t after within)
