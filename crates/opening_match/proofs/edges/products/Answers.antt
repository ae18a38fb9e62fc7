use Rattle.std.proofs.Common.{ℤ, ◌*ℤ◌, ◌≤ℤ◌, sym, subst, arith}
use Rattle.std.proofs.lemmas.Int.{ints}
use Rattle.opening_match.proofs.EdgeNearness.{read_product, times_up, times_down}
use Rattle.opening_match.proofs.edges.products.Goals as goal

pub returns-then-d-ge0-clause-least : goal.returns-then-d-ge0-clause-least
returns-then-d-ge0-clause-least c = λ q from to.
    subst (λ (z : ℤ). z ≤ℤ (c.args.d *ℤ q)) (sym (read_product c.args.d c.args.low c.requires.factor c.requires.low)) (times_up c.args.d c.args.low q (omega (arith, ints)) from)

pub returns-then-d-ge0-clause-greatest : goal.returns-then-d-ge0-clause-greatest
returns-then-d-ge0-clause-greatest c = λ q from to.
    subst (λ (z : ℤ). (c.args.d *ℤ q) ≤ℤ z) (sym (read_product c.args.d c.args.high c.requires.factor c.requires.high)) (times_up c.args.d q c.args.high (omega (arith, ints)) to)

pub returns-else-d-ge0-clause-least : goal.returns-else-d-ge0-clause-least
returns-else-d-ge0-clause-least c = λ q from to.
    subst (λ (z : ℤ). z ≤ℤ (c.args.d *ℤ q)) (sym (read_product c.args.d c.args.high c.requires.factor c.requires.high)) (times_down c.args.d q c.args.high (omega (arith, ints)) to)

pub returns-else-d-ge0-clause-greatest : goal.returns-else-d-ge0-clause-greatest
returns-else-d-ge0-clause-greatest c = λ q from to.
    subst (λ (z : ℤ). (c.args.d *ℤ q) ≤ℤ z) (sym (read_product c.args.d c.args.low c.requires.factor c.requires.low)) (times_down c.args.d c.args.low q (omega (arith, ints)) from)
