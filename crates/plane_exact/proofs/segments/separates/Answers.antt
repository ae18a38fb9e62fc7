use Rattle.std.proofs.Common.{◌≡◌, ◌<ℤ◌, pos, to_z, of_z, w64, refl, arith}
use Rattle.std.proofs.lemmas.Int.{ints}
use Rattle.plane_exact.specs.Plane.{side}
use Rattle.plane_exact.proofs.SegmentLemmas.{iff_along, lt_test, opposite_above, opposite_below}
use Rattle.plane_exact.proofs.segments.separates.Goals as goal

pub returns-then-m-lt0 : goal.returns-then-m-lt0
returns-then-m-lt0 c =
    let first : side c.args.a c.args.b c.args.c <ℤ pos 0 = omega (arith, ints) in
    let second : to_z w64 (of_z w64 c.cross_product-n.result) ≡ side c.args.a c.args.b c.args.d = omega (arith, ints) in
    iff_along (lt_test _ _ _ _ refl second) (opposite_above _ _ first)

pub returns-then-m-gt0 : goal.returns-then-m-gt0
returns-then-m-gt0 c =
    let first : pos 0 <ℤ side c.args.a c.args.b c.args.c = omega (arith, ints) in
    let second : to_z w64 (of_z w64 c.cross_product-n.result) ≡ side c.args.a c.args.b c.args.d = omega (arith, ints) in
    iff_along (lt_test _ _ _ _ second refl) (opposite_below _ _ first)
