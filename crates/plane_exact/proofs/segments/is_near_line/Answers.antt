use Rattle.std.proofs.Common.{◌≡◌, ap, ◌∙◌, pos, ◌*◌, ◌*ℤ◌, to_z, of_z, w64, arith}
use Rattle.std.proofs.lemmas.Int.{ints}
use mir.Syntax.{w128}
use Rattle.plane_exact.specs.Plane.{side, square, squared_distance}
use Rattle.plane_exact.proofs.SegmentLemmas.{le_test}
use Rattle.plane_exact.proofs.segments.is_near_line.Goals as goal

pub returns : goal.returns
returns c =
    let across : to_z w64 (of_z w64 c.cross_product.result) ≡ side c.args.a c.args.b c.args.p = omega (arith, ints) in
    let length : to_z w64 (of_z w64 c.square_between.result) ≡ squared_distance c.args.a c.args.b = omega (arith, ints) in
    let read : to_z w128 (of_z w128 c.wide_square.result) ≡ c.wide_square.result = omega (arith, ints) in
    let read_limit : to_z w128 (of_z w128 c.scaled_tolerance.result) ≡ c.scaled_tolerance.result = omega (arith, ints) in
    le_test _ _ _ _
    (read ∙ c.wide_square.ensures ∙ ap square across)
    (read_limit ∙ c.scaled_tolerance.ensures ∙ ap (λ n. pos (c.args.t * c.args.t) *ℤ n) length)
