use Rattle.std.proofs.Common.{◌≡◌, ◌≤◌, length, sym, ap, ◌∙◌, arith}
use Rattle.route_search.specs.Reaches.{cost_of}
use Rattle.route_search.proofs.ReachCalls.{call_past, call_at, call_low}
use Rattle.route_search.proofs.reached.Reach.cost.Goals as goal

pub returns-in-Some : goal.returns-in-Some
returns-in-Some c =
    let (within, at) = c.in-Some.ensures.lookup.3 in
    let is : c.hand_out.result ≡ cost_of c.args.self.now c.args.node
    = c.hand_out.ensures ∙ call_at c.args.self.now c.deref.result.now c.args.node c.in-Some.cost.now 0 c.deref.ensures.value within (at 0) in
    record { cost = is; low = call_low c.args.self.now c.args.node c.hand_out.result is }

pub returns-in-None : goal.returns-in-None
returns-in-None c =
    let past : length c.args.self.now.costs.items ≤ c.args.node = omega (arith, c.in-None.ensures.lookup.3, ap length c.deref.ensures.value) in
    record { cost = sym (call_past c.args.self.now c.args.node past); low = tt }
