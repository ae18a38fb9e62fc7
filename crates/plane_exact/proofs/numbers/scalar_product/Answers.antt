use Rattle.std.proofs.Common.{◌≡◌, ap₂, ◌∙◌, ◌*ℤ◌, ◌+ℤ◌, ◌-ℤ◌, arith}
use Rattle.std.proofs.lemmas.Int.{ints}
use Rattle.plane_exact.specs.Plane.{along}
use Rattle.plane_exact.proofs.NumberLemmas.{product_of, sum_of}
use Rattle.plane_exact.proofs.numbers.scalar_product.Goals as goal

pub overflow_add-result : goal.overflow_add-result
overflow_add-result c = omega (arith, ints)

pub returns-clause-value : goal.returns-clause-value
unfolding along
returns-clause-value c =
    let x : c.product-x.result ≡ (c.args.b.x -ℤ c.args.a.x) *ℤ (c.args.p.x -ℤ c.args.a.x) = product_of _ _ _ c.product-x.ensures.value c.x_step.ensures.range c.x_step-2.ensures.range ∙ ap₂ ◌*ℤ◌ c.x_step.ensures.value c.x_step-2.ensures.value in
    let y : c.product-y.result ≡ (c.args.b.y -ℤ c.args.a.y) *ℤ (c.args.p.y -ℤ c.args.a.y) = product_of _ _ _ c.product-y.ensures.value c.y_step.ensures.range c.y_step-2.ensures.range ∙ ap₂ ◌*ℤ◌ c.y_step.ensures.value c.y_step-2.ensures.value in
    sum_of _ _ c.product-x.ensures.range c.product-y.ensures.range ∙ ap₂ ◌+ℤ◌ x y

pub returns-clause-range : goal.returns-clause-range
returns-clause-range c = omega (arith, ints)
