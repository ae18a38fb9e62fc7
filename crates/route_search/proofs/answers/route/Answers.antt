use Rattle.std.proofs.Common.{get_or, arith}
use Rattle.std.proofs.lemmas.List.Elements.{Contains-get_or}
use Rattle.route_search.specs.Reaches.{bound_of, cost_of}
use Rattle.route_search.proofs.ReachCalls.{call_within}
use Rattle.route_search.proofs.answers.route.Goals as goal

pub costs_below-requires : goal.costs_below-requires
costs_below-requires c = call_within c.args.reach.now c.args.to c.args.cost c.requires

pub returns-clause-answer : goal.returns-clause-answer
returns-clause-answer c network closed profile from over =
    let are = c.in_ok-potentials.ensures.costs in
    record {
      least = c.in_ok-walk.ensures.least network closed profile from c.args.cost over c.requires;
      certificate = c.below_law.ensures.certificate (network, closed, profile) from c.args.to c.args.cost c.args.cost (bound_of c.args.reach.now) (cost_of c.args.reach.now) c.in_ok-potentials.potentials
          over.knows (call_within c.args.reach.now c.args.to c.args.cost c.requires) are c.requires (omega arith);
      rising = are.rising;
      below = λ k d within. (are.only (get_or c.in_ok-potentials.potentials k d) (Contains-get_or c.in_ok-potentials.potentials k d within)).1;
    }
