use Rattle.std.proofs.Common.{ℕ, refl, subst, arith}
use Rattle.link_graph.specs.Graphs.{network}
use Rattle.link_graph.specs.Marking.{marked}
use Rattle.link_graph.specs.Networks.{IsPassable}
use Rattle.route_search.specs.Scans.{node_count}
use Rattle.route_search.specs.States.{IsBegun}
use Rattle.route_search.proofs.Between.{begun_between, begun_from}
use Rattle.route_search.proofs.ReachCalls.{ended_near, ended_few, ended_tree, ended_over, ended_enough, ended_small}
use Rattle.route_search.proofs.Sums.{out_sum}
use Rattle.route_search.proofs.reaching.reach.Goals as goal

pub grow-requires-clause-begun : goal.grow-requires-clause-begun
grow-requires-clause-begun g c =
    begun_between (IsPassable (network c.args.graph.now) (marked (network c.args.graph.now) c.args.marks.now c.args.number) c.args.profile.now) (node_count c.args.graph.now) c.args.from c.in_ok-state.state
    (subst (λ (n : ℕ). IsBegun n c.args.from c.in_ok-state.state) c.nodes.ensures.number c.in_ok-state.ensures) c.requires.from c.range_law.ensures.nodes

pub returns-in_err-bound-clause-steps : goal.returns-in_err-bound-clause-steps
returns-in_err-bound-clause-steps g c = omega (arith, c.grow.ensures.steps, out_sum (network c.args.graph.now) c.in_ok-state.state.settled.items)

pub invariant_of-result : goal.invariant_of-result
invariant_of-result g c =
    let IsLink = IsPassable (network c.args.graph.now) (marked (network c.args.graph.now) c.args.marks.now c.args.number) c.args.profile.now in
    let begun = subst (λ (n : ℕ). IsBegun n c.args.from c.in_ok-state.state) c.nodes.ensures.number c.in_ok-state.ensures in
    let ended = c.in_ok-bound.ensures.ended c.args.from (begun_from IsLink (node_count c.args.graph.now) c.args.from c.in_ok-state.state begun c.requires.from c.range_law.ensures.nodes) in
    record {
      near = ended_near IsLink (node_count c.args.graph.now) c.args.from c.in_ok-bound.bound c.grow.new.state ended;
      few = ended_few IsLink (node_count c.args.graph.now) c.args.from c.in_ok-bound.bound c.grow.new.state c.range_law.ensures.nodes ended;
      tree = ended_tree IsLink (node_count c.args.graph.now) c.args.from c.in_ok-bound.bound c.grow.new.state ended;
    }

pub returns-clause-over : goal.returns-clause-over
returns-clause-over g c =
    let IsLink = IsPassable (network c.args.graph.now) (marked (network c.args.graph.now) c.args.marks.now c.args.number) c.args.profile.now in
    let begun = subst (λ (n : ℕ). IsBegun n c.args.from c.in_ok-state.state) c.nodes.ensures.number c.in_ok-state.ensures in
    let ended = c.in_ok-bound.ensures.ended c.args.from (begun_from IsLink (node_count c.args.graph.now) c.args.from c.in_ok-state.state begun c.requires.from c.range_law.ensures.nodes) in
    ended_over IsLink (node_count c.args.graph.now) c.args.from _ c.grow.new.state refl refl refl ended

pub returns-clause-enough : goal.returns-clause-enough
returns-clause-enough g c = ended_enough (g.E.Ends.ends c.args.ends.now) c.args.count _ c.grow.new.state refl c.in_ok-bound.ensures.enough

pub returns-clause-small : goal.returns-clause-small
returns-clause-small g c =
    let IsLink = IsPassable (network c.args.graph.now) (marked (network c.args.graph.now) c.args.marks.now c.args.number) c.args.profile.now in
    let begun = subst (λ (n : ℕ). IsBegun n c.args.from c.in_ok-state.state) c.nodes.ensures.number c.in_ok-state.ensures in
    let ended = c.in_ok-bound.ensures.ended c.args.from (begun_from IsLink (node_count c.args.graph.now) c.args.from c.in_ok-state.state begun c.requires.from c.range_law.ensures.nodes) in
    ended_small IsLink (node_count c.args.graph.now) c.args.from _ c.grow.new.state refl ended

pub returns-clause-steps : goal.returns-clause-steps
returns-clause-steps g c = omega (arith, c.grow.ensures.steps, out_sum (network c.args.graph.now) c.in_ok-state.state.settled.items)
