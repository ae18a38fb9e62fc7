use Rattle.std.proofs.Common.{◌≡◌, ℕ, Option, None, Some, sym, subst, ◌∙◌}
use Rattle.link_graph.specs.Networks.{IsPassable}
use Rattle.link_graph.specs.Views.{link_view}
use Rattle.walk_laws.specs.Reaches.{IsReach}
use Rattle.route_search.specs.Reaches.{cost_of}
use Rattle.route_search.proofs.answers.cut.Goals as goal

pub returns-clause-answer : goal.returns-clause-answer
returns-clause-answer c network closed profile from over =
    let knows : IsReach link_view (IsPassable network closed profile) from None (cost_of c.args.reach.now)
    = subst (λ (b : Option ℕ). IsReach link_view (IsPassable network closed profile) from b (cost_of c.args.reach.now)) c.requires.whole over.knows in
    let walks = λ (n : ℕ). c.reach_law.ensures.reached (network, closed, profile) from n (cost_of c.args.reach.now) knows in
    let exact = c.in_ok-reached.ensures.exact in
    record {
      none = λ walk leads.
          (let (cost, some) = (walks c.args.to).1 (walk, leads) in
          let never : None ≡ Some cost = sym c.requires.nowhere ∙ some in
          absurd cc);
      cut = c.reach_law.ensures.cut (network, closed, profile) from c.args.to (cost_of c.args.reach.now) c.in_ok-reached.reached knows exact c.requires.nowhere;
      exact = λ n. ((λ has. (walks n).0 ((exact n).0 has)), (λ leads. (exact n).1 ((walks n).1 leads)));
      rising = c.in_ok-reached.ensures.rising;
    }
