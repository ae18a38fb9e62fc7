use Rattle.std.proofs.Common.{◌≡◌, ap₂, ◌∙◌, ◌*ℤ◌, ◌+ℤ◌, ◌-ℤ◌, arith}
use Rattle.std.proofs.lemmas.Int.{ints}
use Rattle.plane_exact.specs.Plane.{squared_distance, square}
use Rattle.plane_exact.proofs.NumberLemmas.{product_of, sum_of}
use Rattle.plane_exact.proofs.numbers.square_between.Goals as goal

pub overflow_add-result : goal.overflow_add-result
overflow_add-result c = omega (arith, ints)

pub returns-clause-value : goal.returns-clause-value
unfolding squared_distance square
returns-clause-value c =
    let x : c.product.result ≡ square (c.args.b.x -ℤ c.args.a.x) = product_of _ _ _ c.product.ensures.value c.x_step-x.ensures.range c.x_step-x.ensures.range ∙ ap₂ ◌*ℤ◌ c.x_step-x.ensures.value c.x_step-x.ensures.value in
    let y : c.product-2.result ≡ square (c.args.b.y -ℤ c.args.a.y) = product_of _ _ _ c.product-2.ensures.value c.y_step-y.ensures.range c.y_step-y.ensures.range ∙ ap₂ ◌*ℤ◌ c.y_step-y.ensures.value c.y_step-y.ensures.value in
    sum_of _ _ c.product.ensures.range c.product-2.ensures.range ∙ ap₂ ◌+ℤ◌ x y

pub returns-clause-range : goal.returns-clause-range
returns-clause-range c = omega (arith, ints)
