-- The sum is of a leg and of what a way through fewer stops costs, both of which are bounded.
use Rattle.std.proofs.Common.{ap, ◌∙◌, arith, ◌≡◌, ◌≤◌, ◌+◌, ◌-◌, ◌*◌, ◌^◌}
use Rattle.stop_order.specs.Sums.{sum_in}
use Rattle.stop_order.proofs.Bits.{power_256}
use Rattle.stop_order.proofs.Ways.{known_without, least_bounded}
use Rattle.stop_order.proofs.next.choice_of.Goals as goal

pub overflow_add-result : goal.overflow_add-result
overflow_add-result c =
    let legs = c.args.legs.now in
    let table = c.args.table.now in
    let rest = known_without legs table c.args.set c.args.stop c.requires.stops c.requires.known c.requires.has in
    let bounded : sum_in table (c.args.set - 2 ^ c.args.stop) c.args.stop ≤ (c.args.set - 2 ^ c.args.stop + 1) * 2 ^ 50 =
    least_bounded legs _ _ _ c.requires.capped rest in
    let few = power_256 legs.stops c.requires.capped.few in
    let leg = c.requires.capped.capped (10 * c.args.place + (c.args.stop + 1)) in
    let read : c.sum_at-rest.result ≡ sum_in table (c.args.set - 2 ^ c.args.stop) c.args.stop =
    c.sum_at-rest.ensures ∙ ap (λ s. sum_in table s c.args.stop) c.without.ensures in
    omega arith
