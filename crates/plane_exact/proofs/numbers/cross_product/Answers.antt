use Rattle.std.proofs.Common.{◌≡◌, ap₂, ◌∙◌, ◌*ℤ◌, ◌-ℤ◌, arith}
use Rattle.std.proofs.lemmas.Int.{ints}
use Rattle.plane_exact.specs.Plane.{side}
use Rattle.plane_exact.proofs.NumberLemmas.{product_of, difference_of}
use Rattle.plane_exact.proofs.numbers.cross_product.Goals as goal

pub overflow_sub-result : goal.overflow_sub-result
overflow_sub-result c = omega (arith, ints)

pub returns-clause-value : goal.returns-clause-value
unfolding side
returns-clause-value c =
    let right : c.product-right.result ≡ (c.args.b.x -ℤ c.args.a.x) *ℤ (c.args.p.y -ℤ c.args.a.y) = product_of _ _ _ c.product-right.ensures.value c.x_step.ensures.range c.y_step.ensures.range ∙ ap₂ ◌*ℤ◌ c.x_step.ensures.value c.y_step.ensures.value in
    let left : c.product-left.result ≡ (c.args.b.y -ℤ c.args.a.y) *ℤ (c.args.p.x -ℤ c.args.a.x) = product_of _ _ _ c.product-left.ensures.value c.y_step-2.ensures.range c.x_step-2.ensures.range ∙ ap₂ ◌*ℤ◌ c.y_step-2.ensures.value c.x_step-2.ensures.value in
    difference_of _ _ c.product-right.ensures.range c.product-left.ensures.range ∙ ap₂ ◌-ℤ◌ right left

pub returns-clause-range : goal.returns-clause-range
returns-clause-range c = omega (arith, ints)
