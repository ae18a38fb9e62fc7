use Rattle.std.proofs.Common.{ℤ, pos, ◌*◌, ◌+◌, ◌-ℤ◌, ◌*ℤ◌, ◌≤ℤ◌, unsigned_abs, ap₂, subst, ◌∙◌, rules}
use Rattle.opening_match.proofs.EdgeNearness.{side_within, exact_read, above_read, below_read, in_order}
use Rattle.opening_match.proofs.edges.Edge.line_comes_near.Goals as goal

pub returns-then-is_within : goal.returns-then-is_within
returns-then-is_within c = λ p box span close near.
    let a = c.args.self.now.from in
    let b = c.args.self.now.to in
    let extent = c.args.extent.now in
    let x = exact_read a.x b.x c.apart-x.result (search rules) (search rules) (search rules) c.apart-x.ensures.exact span.x in
    let y = exact_read a.y b.y c.apart-y.result (search rules) (search rules) (search rules) c.apart-y.ensures.exact span.y in
    let south = below_read a.y extent.south c.apart.result p.y (search rules) (search rules) (search rules) c.apart.ensures.below close.y box.south in
    let north = above_read a.y extent.north c.apart-2.result p.y (search rules) (search rules) (search rules) c.apart-2.ensures.above close.y box.north in
    let west = below_read a.x extent.west c.apart-3.result p.x (search rules) (search rules) (search rules) c.apart-3.ensures.below close.x box.west in
    let east = above_read a.x extent.east c.apart-4.result p.x (search rules) (search rules) (search rules) c.apart-4.ensures.above close.x box.east in
    let least = subst (λ (d : ℤ). c.products-right.result.least ≤ℤ (d *ℤ (p.x -ℤ a.x))) y (c.products-right.ensures.least (p.x -ℤ a.x) west east) in
    let greatest = subst (λ (d : ℤ). (d *ℤ (p.y -ℤ a.y)) ≤ℤ c.products-up.result.greatest) x (c.products-up.ensures.greatest (p.y -ℤ a.y) south north) in
    let slack = c.slack_of-slack.ensures ∙ ap₂ (λ (d e : ℤ). pos (c.args.tolerance * (unsigned_abs d + unsigned_abs e))) x y in
    c.is_within-then-is_within.ensures.1 (in_order c.products-right.result.least ((b.y -ℤ a.y) *ℤ (p.x -ℤ a.x)) ((b.x -ℤ a.x) *ℤ (p.y -ℤ a.y)) c.products-up.result.greatest c.slack_of-slack.result (c.args.tolerance * (unsigned_abs (b.x -ℤ a.x) + unsigned_abs (b.y -ℤ a.y))) (search rules) (search rules) (search rules) least (side_within p a b c.args.tolerance near).below greatest slack)

pub returns-else-is_within : goal.returns-else-is_within
returns-else-is_within c = λ p box span close near.
    let a = c.args.self.now.from in
    let b = c.args.self.now.to in
    let extent = c.args.extent.now in
    let x = exact_read a.x b.x c.apart-x.result (search rules) (search rules) (search rules) c.apart-x.ensures.exact span.x in
    let y = exact_read a.y b.y c.apart-y.result (search rules) (search rules) (search rules) c.apart-y.ensures.exact span.y in
    let south = below_read a.y extent.south c.apart.result p.y (search rules) (search rules) (search rules) c.apart.ensures.below close.y box.south in
    let north = above_read a.y extent.north c.apart-2.result p.y (search rules) (search rules) (search rules) c.apart-2.ensures.above close.y box.north in
    let west = below_read a.x extent.west c.apart-3.result p.x (search rules) (search rules) (search rules) c.apart-3.ensures.below close.x box.west in
    let east = above_read a.x extent.east c.apart-4.result p.x (search rules) (search rules) (search rules) c.apart-4.ensures.above close.x box.east in
    let least = subst (λ (d : ℤ). c.products-up.result.least ≤ℤ (d *ℤ (p.y -ℤ a.y))) x (c.products-up.ensures.least (p.y -ℤ a.y) south north) in
    let greatest = subst (λ (d : ℤ). (d *ℤ (p.x -ℤ a.x)) ≤ℤ c.products-right.result.greatest) y (c.products-right.ensures.greatest (p.x -ℤ a.x) west east) in
    let slack = c.slack_of-slack.ensures ∙ ap₂ (λ (d e : ℤ). pos (c.args.tolerance * (unsigned_abs d + unsigned_abs e))) x y in
    c.is_within.ensures.1 (in_order c.products-up.result.least ((b.x -ℤ a.x) *ℤ (p.y -ℤ a.y)) ((b.y -ℤ a.y) *ℤ (p.x -ℤ a.x)) c.products-right.result.greatest c.slack_of-slack.result (c.args.tolerance * (unsigned_abs (b.x -ℤ a.x) + unsigned_abs (b.y -ℤ a.y))) (search rules) (search rules) (search rules) least (side_within p a b c.args.tolerance near).above greatest slack)
