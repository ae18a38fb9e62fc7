-- From what a search knows at its end to what it hands out.
use Rattle.std.proofs.Common.{◌≡◌, ◌↔◌, ℕ, ◌<◌, ◌≤◌, List, Option, Some, None, length, All, get_or, refl, sym, ap, subst, ◌∙◌, arith}
use Rattle.std.specs.Prelude.{Contains}
use Rattle.std.proofs.lemmas.List.Elements.{Contains-get_or}
use Rattle.venue_types.specs.declared.link.Link.{Link}
use Rattle.venue_types.specs.declared.link.Potential.{Potential}
use Rattle.walk_laws.specs.Walks.{IsWalk, walk_cost}
use Rattle.walk_laws.specs.Reaches.{IsWithin, HasCost, AreBelow}
use Rattle.link_graph.specs.Views.{link_view, potential_view}
use Rattle.route_search.specs.declared.labels.Last.{Last}
use Rattle.route_search.specs.Labels.{IsTree, IsLabelled, AreOver, cost_at, no_cost}
use Rattle.route_search.specs.Handed.{most, handed}
use Rattle.route_search.specs.Trails.{IsLast, IsTrail, AreNodesBelow, ArePotentialsBelow}
use Rattle.route_search.proofs.HandedCosts.{handed_some, below_handed, known_handed}
use Rattle.route_search.proofs.TrailLists.{cost_within}
use Rattle.route_search.proofs.TrailWalks.{walk_over}

-- a node of which a cost is handed out is labelled
pub some_labelled : (bound : Option ℕ) (costs : List ℕ) (n cost : ℕ) → most bound < no_cost → handed bound (cost_at costs n) ≡ Some cost → IsLabelled costs n
some_labelled bound costs n cost near some = let (same, low) = handed_some bound (cost_at costs n) cost some in omega (arith, low, near)

-- over the family, the trail to a node is a walk of the cost that is handed out
pub trail_walk : (IsLink : Link → Type 0) (bound : Option ℕ) (costs : List ℕ) (lasts : List Last) (start from n cost : ℕ) (walk : List Link) → cost_at costs start ≡ 0 → start ≡ from → AreOver IsLink costs lasts
    → handed bound (cost_at costs n) ≡ Some cost → IsTrail costs lasts start n walk → IsWalk link_view IsLink from n walk × (walk_cost link_view walk ≡ cost)
trail_walk IsLink bound costs lasts start from n cost walk nothing same over some trail =
    let (is, low) = handed_some bound (cost_at costs n) cost some in
    let leads = walk_over (IsLast costs lasts) IsLink (λ link last. over last.node link last.known last.by) start n walk trail.leads in
    (subst (λ (k : ℕ). IsWalk link_view IsLink k n walk) same leads, omega (arith, trail.costs_more, nothing, is))

-- it has no more links than there are nodes
pub trail_few : (nodes from n : ℕ) (costs : List ℕ) (lasts : List Last) (walk : List Link) → IsTree nodes from costs lasts → IsLabelled costs n → IsTrail costs lasts from n walk → length walk ≤ nodes
trail_few nodes from n costs lasts walk tree known trail = omega (arith, trail.goes_deeper, tree.shallow n known)

-- the potentials below a limit are the costs that are handed out
pub are_below : (bound : Option ℕ) (costs : List ℕ) (limit : ℕ) (ps : List Potential) → IsWithin bound limit → limit ≤ no_cost → ArePotentialsBelow costs limit (length costs) ps
    → AreBelow potential_view (λ n. handed bound (cost_at costs n)) limit ps
are_below bound costs limit ps within most are = record {
  only = λ p has.
      (let is = are.only p has in
      (below_handed bound limit (cost_at costs p.node) within (omega (arith, is.value, is.below)) (omega (arith, is.value, is.below, most)) ∙ ap Some (sym is.value), is.below));
  all = λ n has.
      (let (cost, some, less) = has in
      let (same, low) = handed_some bound (cost_at costs n) cost some in
      let here : cost_at costs n < limit = omega (arith, same, less) in
      (record { node = n; value = cost_at costs n }, are.all n (cost_within costs limit n most here) here, refl));
  rising = are.rising;
}

pub below_nodes : (costs : List ℕ) (limit : ℕ) (ps : List Potential) → ArePotentialsBelow costs limit (length costs) ps → All (λ (p : Potential). p.node < length costs) ps
below_nodes costs limit ps are k d within = (are.only (get_or ps k d) (Contains-get_or ps k d within)).node

-- without a bound the known nodes are those of which a cost is handed out
pub are_reached : (bound : Option ℕ) (costs : List ℕ) (reached : List ℕ) → most bound < no_cost → bound ≡ None → AreNodesBelow costs no_cost (length costs) reached
    → (n : ℕ) → Contains reached n ↔ HasCost (λ m. handed bound (cost_at costs m)) n
are_reached bound costs reached near none are n = (
  (λ has. (cost_at costs n, known_handed bound (cost_at costs n) none (are.only n has).1)),
  (λ has. (let known : cost_at costs n < no_cost = some_labelled bound costs n has.0 near has.1 in are.all n (cost_within costs no_cost n (omega arith) known) known)),
)

pub reached_nodes : (costs : List ℕ) (reached : List ℕ) → AreNodesBelow costs no_cost (length costs) reached → All (λ (n : ℕ). n < length costs) reached
reached_nodes costs reached are k d within = (are.only (get_or reached k d) (Contains-get_or reached k d within)).0
