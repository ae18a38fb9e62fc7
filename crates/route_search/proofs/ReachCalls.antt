-- What a search hands out, call by call.
use Rattle.std.proofs.Common.{◌≡◌, ◌↔◌, ℕ, ◌^◌, ◌<◌, ◌≤◌, Bool, List, Option, Some, None, length, get_or, All, refl, sym, ap, subst, ◌∙◌, arith}
use Rattle.std.specs.Prelude.{Contains, IfSome}
use Rattle.venue_types.specs.declared.link.Link.{Link}
use Rattle.venue_types.specs.declared.link.Potential.{Potential}
use Rattle.walk_laws.specs.Walks.{IsWalk, walk_cost}
use Rattle.walk_laws.specs.Reaches.{IsWithin, HasCost, AreBelow}
use Rattle.link_graph.specs.Views.{link_view, potential_view}
use Rattle.route_search.specs.declared.labels.Last.{Last}
use Rattle.route_search.specs.declared.reached.Reach.{Reach}
use Rattle.route_search.specs.declared.state.State.{State}
use Rattle.route_search.specs.Labels.{IsTree, IsLabelled, IsFound, IsSpent, AreOver, cost_at, no_cost}
use Rattle.route_search.specs.Handed.{most, handed}
use Rattle.route_search.specs.Reaches.{IsReachOver, HasEnough, IsSmallReach, bound_of, cost_of, nodes_of}
use Rattle.route_search.specs.States.{cost_in, IsEnded}
use Rattle.route_search.specs.Tallies.{HasKnownEnds}
use Rattle.route_search.specs.Trails.{IsKnown, IsTrail, AreNodesBelow, ArePotentialsBelow}
use Rattle.route_search.proofs.Between.{tree_as}
use Rattle.route_search.proofs.HandedCosts.{handed_some, handed_past, handed_within, some_within, is_reach}
use Rattle.route_search.proofs.Looked.{cost_read}
use Rattle.route_search.proofs.TrailAnswers.{some_labelled, trail_walk, trail_few, are_below, below_nodes, are_reached, reached_nodes}
use Rattle.route_search.proofs.TrailLists.{cost_past}
use Rattle.route_search.proofs.TrailWalks.{labelled_within}

-- a node that has a cost is known
pub call_known : (reach : Reach) (n : ℕ) → HasCost (cost_of reach) n → IsLabelled reach.costs.items n
unfolding cost_of
call_known reach n has = some_labelled reach.bound reach.costs.items n has.0 reach.near has.1

-- what is handed out of the cost at its place is a node's cost
pub call_at : (reach : Reach) (costs : List ℕ) (n c d : ℕ) → costs ≡ reach.costs.items → n < length costs → c ≡ get_or costs n d → handed reach.bound c ≡ cost_of reach n
unfolding cost_of
call_at reach costs n c d same within is = ap (handed reach.bound) (cost_read costs n c d within is ∙ ap (λ (cs : List ℕ). cost_at cs n) same)

-- a number past the nodes has none
pub call_past : (reach : Reach) (n : ℕ) → length reach.costs.items ≤ n → cost_of reach n ≡ None
unfolding cost_of
call_past reach n past = handed_past reach.bound (cost_at reach.costs.items n) (omega (arith, cost_past reach.costs.items n past, reach.near))

-- a walk back is asked from a node that is known
pub call_back : (reach : Reach) (lasts : List Last) (n : ℕ) → lasts ≡ reach.lasts → HasCost (cost_of reach) n → IsKnown lasts n
call_back reach lasts n same has = record {
  costs = reach.costs.items;
  from = reach.from;
  tree = subst (λ (ls : List Last). IsTree (length reach.costs.items) reach.from reach.costs.items ls) (sym same) reach.tree;
  there = call_known reach n has;
}

pub call_trail : (reach : Reach) (lasts : List Last) (n : ℕ) (walk : List Link) → lasts ≡ reach.lasts → HasCost (cost_of reach) n
    → ((known : IsKnown lasts n) → IsTrail known.costs lasts known.from n walk) → IsTrail reach.costs.items lasts reach.from n walk
unfolding call_back
call_trail reach lasts n walk same has trail = trail (call_back reach lasts n same has)

-- it is a walk of the node's cost over the family
pub call_walk : (reach : Reach) (IsLink : Link → Type 0) (lasts : List Last) (from n cost : ℕ) (walk : List Link) → lasts ≡ reach.lasts → IsReachOver IsLink from reach → cost_of reach n ≡ Some cost
    → IsTrail reach.costs.items lasts reach.from n walk → IsWalk link_view IsLink from n walk × (walk_cost link_view walk ≡ cost)
unfolding cost_of
call_walk reach IsLink lasts from n cost walk same over some trail =
    trail_walk IsLink reach.bound reach.costs.items lasts reach.from from n cost walk reach.tree.start over.starts (subst (λ (ls : List Last). AreOver IsLink reach.costs.items ls) (sym same) over.over) some trail

pub call_few : (reach : Reach) (lasts : List Last) (n : ℕ) (walk : List Link) → lasts ≡ reach.lasts → HasCost (cost_of reach) n → IsTrail reach.costs.items lasts reach.from n walk → length walk ≤ nodes_of reach
unfolding nodes_of
call_few reach lasts n walk same has trail =
    let tree = subst (λ (ls : List Last). IsTree (length reach.costs.items) reach.from reach.costs.items ls) (sym same) reach.tree in
    trail_few (length reach.costs.items) reach.from n reach.costs.items lasts walk tree (call_known reach n has) trail

-- what is listed below a limit
pub call_below : (reach : Reach) (costs : List ℕ) (limit : ℕ) (ps : List Potential) → costs ≡ reach.costs.items → IsWithin (bound_of reach) limit → limit ≤ no_cost → ArePotentialsBelow costs limit (length costs) ps
    → AreBelow potential_view (cost_of reach) limit ps
unfolding cost_of bound_of
call_below reach costs limit ps same within most are =
    are_below reach.bound reach.costs.items limit ps within most (subst (λ (cs : List ℕ). ArePotentialsBelow cs limit (length cs) ps) same are)

pub call_below_nodes : (reach : Reach) (costs : List ℕ) (limit : ℕ) (ps : List Potential) → costs ≡ reach.costs.items → ArePotentialsBelow costs limit (length costs) ps
    → All (λ (p : Potential). p.node < nodes_of reach) ps
unfolding nodes_of
call_below_nodes reach costs limit ps same are = subst (λ (cs : List ℕ). All (λ (p : Potential). p.node < length cs) ps) same (below_nodes costs limit ps are)

-- what is listed as reached
pub call_reached : (reach : Reach) (costs : List ℕ) (reached : List ℕ) → costs ≡ reach.costs.items → bound_of reach ≡ None → AreNodesBelow costs no_cost (length costs) reached
    → (n : ℕ) → Contains reached n ↔ HasCost (cost_of reach) n
unfolding cost_of bound_of
call_reached reach costs reached same none are =
    are_reached reach.bound reach.costs.items reached reach.near none (subst (λ (cs : List ℕ). AreNodesBelow cs no_cost (length cs) reached) same are)

pub call_reached_nodes : (reach : Reach) (costs : List ℕ) (reached : List ℕ) → costs ≡ reach.costs.items → AreNodesBelow costs no_cost (length costs) reached → All (λ (n : ℕ). n < nodes_of reach) reached
unfolding nodes_of
call_reached_nodes reach costs reached same are = subst (λ (cs : List ℕ). All (λ (n : ℕ). n < length cs) reached) same (reached_nodes costs reached are)

-- a cost is within the bound
pub call_within : (reach : Reach) (n cost : ℕ) → cost_of reach n ≡ Some cost → IsWithin (bound_of reach) cost
unfolding cost_of bound_of
call_within reach n cost some = some_within reach.bound (cost_at reach.costs.items n) cost some

pub call_low : (reach : Reach) (n : ℕ) (cost : Option ℕ) → cost ≡ cost_of reach n → IfSome cost (IsWithin (bound_of reach))
call_low reach n None same = tt
call_low reach n (Some cost) same = call_within reach n cost (sym same)

-- ---- the search ended

near_of : (bound : Option ℕ) → ((cost : ℕ) → bound ≡ Some cost → cost < 2 ^ 42) → most bound < no_cost
near_of None near = omega arith
near_of (Some bound) near = omega (arith, near bound refl)

pub ended_near : (IsLink : Link → Type 0) (nodes from : ℕ) (bound : Option ℕ) (state : State) → IsEnded IsLink nodes from bound state → most bound < no_cost
ended_near IsLink nodes from bound state ended = near_of bound ended.near

pub ended_few : (IsLink : Link → Type 0) (nodes from : ℕ) (bound : Option ℕ) (state : State) → nodes ≤ 400000 → IsEnded IsLink nodes from bound state → length state.costs.items ≤ 400000
ended_few IsLink nodes from bound state few ended = omega (arith, few, ended.tree.costs_count)

pub ended_tree : (IsLink : Link → Type 0) (nodes from : ℕ) (bound : Option ℕ) (state : State) → IsEnded IsLink nodes from bound state
    → IsTree (length state.costs.items) from state.costs.items state.lasts
ended_tree IsLink nodes from bound state ended = tree_as nodes from state.costs.items state.lasts ended.tree

over_of : (IsLink : Link → Type 0) (nodes from : ℕ) (bound : Option ℕ) (state : State) → IsEnded IsLink nodes from bound state → AreOver IsLink state.costs.items state.lasts
over_of IsLink nodes from None state ended = (ended.spent refl).over
over_of IsLink nodes from (Some bound) state ended = (ended.found bound refl).over

pub ended_over : (IsLink : Link → Type 0) (nodes from : ℕ) (reach : Reach) (state : State) → reach.from ≡ from → reach.costs.items ≡ state.costs.items → reach.lasts ≡ state.lasts
    → IsEnded IsLink nodes from reach.bound state → IsReachOver IsLink from reach
unfolding cost_of bound_of
ended_over IsLink nodes from reach state start costs lasts ended =
    let parts : List ℕ → List Last → Type 0
    = λ cs ls. IsTree nodes from cs ls × AreOver IsLink cs ls × ((cost : ℕ) → reach.bound ≡ Some cost → IsFound IsLink cost cs ls) × (reach.bound ≡ None → IsSpent IsLink cs ls) in
    let moved : parts reach.costs.items reach.lasts
    = subst (λ (cs : List ℕ). parts cs reach.lasts) (sym costs)
    (subst (λ (ls : List Last). parts state.costs.items ls) (sym lasts) (ended.tree, over_of IsLink nodes from reach.bound state ended, ended.found, ended.spent)) in
    record {
      starts = start;
      knows = is_reach IsLink nodes from reach.costs.items reach.lasts moved.0 reach.bound reach.near moved.1 moved.2 moved.3;
      over = moved.1;
    }

pub ended_enough : (is_end : ℕ → Bool) (count : ℕ) (reach : Reach) (state : State) → reach.costs.items ≡ state.costs.items → HasKnownEnds is_end count reach.bound state → HasEnough is_end count reach
unfolding cost_of bound_of
ended_enough is_end count reach state costs enough bound some =
    let (found, are) = enough bound some in
    let same : (n : ℕ) → cost_at reach.costs.items n ≡ cost_in state n = λ n. ap (λ (cs : List ℕ). cost_at cs n) costs in
    let high : most reach.bound ≡ bound = ap most some in (
      found,
      record {
        many = are.many;
        different = are.different;
        ends = are.ends;
        cheap = λ n has.
            (let less = are.low n has in
            (cost_at reach.costs.items n, handed_within reach.bound (cost_at reach.costs.items n) (omega (arith, less, same n, high)), omega (arith, less, same n)));
      },
    )

pub ended_small : (IsLink : Link → Type 0) (nodes from : ℕ) (reach : Reach) (state : State) → reach.costs.items ≡ state.costs.items → IsEnded IsLink nodes from reach.bound state → IsSmallReach nodes reach
unfolding cost_of bound_of nodes_of
ended_small IsLink nodes from reach state costs ended =
    let count : length reach.costs.items ≡ nodes = ap length costs ∙ ended.tree.costs_count in
    record {
      nodes_are = count;
      cheap = λ n cost some.
          (let known : IsLabelled reach.costs.items n = some_labelled reach.bound reach.costs.items n cost reach.near some in
          let (same, low) = handed_some reach.bound (cost_at reach.costs.items n) cost some in
          omega (arith, reach.tree.small n known, same));
      there = λ n cost some.
          (let known : IsLabelled reach.costs.items n = some_labelled reach.bound reach.costs.items n cost reach.near some in
          omega (arith, labelled_within (length reach.costs.items) reach.from reach.costs.items reach.lasts n reach.tree known, count));
      near = ended.near;
    }
