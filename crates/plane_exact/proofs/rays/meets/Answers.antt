use Rattle.std.proofs.Common.{◌≡◌, ◌≤ℤ◌, ◌<ℤ◌, to_z, of_z, w64, sym, ◌∙◌, arith}
use Rattle.std.proofs.lemmas.Int.{ints}
use Rattle.plane_exact.specs.Plane.{side}
use Rattle.plane_exact.proofs.RayLemmas.{meets_up, meets_not_up, meets_down, meets_not_down}
use Rattle.plane_exact.proofs.rays.meets.Goals as goal

pub returns-then-p-b : goal.returns-then-p-b
returns-then-p-b c =
    let starts : c.args.a.y ≤ℤ c.args.p.y = omega (arith, ints) in
    let ends : c.args.p.y <ℤ c.args.b.y = omega (arith, ints) in
    let across : to_z w64 (of_z w64 c.cross_product.result) ≡ side c.args.a c.args.b c.args.p = omega (arith, ints) in
    meets_up c.args.p c.args.a c.args.b _ starts ends across

pub returns-else-p-b : goal.returns-else-p-b
returns-else-p-b c =
    let starts : c.args.a.y ≤ℤ c.args.p.y = omega (arith, ints) in
    let ends : c.args.b.y ≤ℤ c.args.p.y = omega (arith, ints) in
    c.if-p-b.false ∙ sym (meets_not_up c.args.p c.args.a c.args.b starts ends)

pub returns-then-b-p : goal.returns-then-b-p
returns-then-b-p c =
    let starts : c.args.p.y <ℤ c.args.a.y = omega (arith, ints) in
    let ends : c.args.b.y ≤ℤ c.args.p.y = omega (arith, ints) in
    let across : to_z w64 (of_z w64 c.cross_product-then-b-p.result) ≡ side c.args.a c.args.b c.args.p = omega (arith, ints) in
    meets_down c.args.p c.args.a c.args.b _ starts ends across

pub returns-else-b-p : goal.returns-else-b-p
returns-else-b-p c =
    let starts : c.args.p.y <ℤ c.args.a.y = omega (arith, ints) in
    let ends : c.args.p.y <ℤ c.args.b.y = omega (arith, ints) in
    c.if-b-p.false ∙ sym (meets_not_down c.args.p c.args.a c.args.b starts ends)
