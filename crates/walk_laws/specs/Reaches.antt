-- What a search from a node knows of all nodes, when it ends.
use Rattle.std.specs.Prelude.{◌≡◌, ℕ, ◌+◌, ◌<◌, ◌≤◌, min, List, Option, Some, None, Contains}
use Rattle.walk_laws.specs.Views.{LinkView, PotentialView}
use Rattle.walk_laws.specs.Walks.{IsWalk, walk_cost}
use Rattle.walk_laws.specs.Certificates.{Ascends}

-- the cost of a node, and the limit where it has none
abbrev pub cost_or : ℕ → Option ℕ → ℕ
cost_or limit None = limit
cost_or limit (Some cost) = cost

-- the lesser of the limit and what a node costs
abbrev pub lesser : ℕ → Option ℕ → ℕ
lesser limit cost = min limit (cost_or limit cost)

-- it is at most the bound, if there is one
abbrev pub IsWithin : Option ℕ → ℕ → Type 0
IsWithin None cost = Unit {0}
IsWithin (Some bound) cost = cost ≤ bound

-- the node has a cost
abbrev pub HasCost : (ℕ → Option ℕ) → ℕ → Type 0
HasCost cost_of n = (cost : ℕ) × (cost_of n ≡ Some cost)

-- the node has a cost below the limit
abbrev pub CostsLess : (ℕ → Option ℕ) → ℕ → ℕ → Type 0
CostsLess cost_of limit n = (cost : ℕ) × (cost_of n ≡ Some cost) × (cost < limit)

-- with the bound as the value of nodes without a cost, no link's end has a value above its start's by more than the link costs;
-- without a bound a link out of a node with a cost leads to one with a cost, which is greater by no more than the link's
abbrev pub Rises : {L : Type 0} → LinkView L → (L → Type 0) → Option ℕ → (ℕ → Option ℕ) → Type 0
Rises {L} view IsLink None cost_of =
    (link : L) (cost : ℕ) → IsLink link → cost_of (view.from link) ≡ Some cost
    → (end : ℕ) × (cost_of (view.to link) ≡ Some end) × (end ≤ cost + view.cost link)
Rises {L} view IsLink (Some bound) cost_of =
    (link : L) → IsLink link → cost_or bound (cost_of (view.to link)) ≤ cost_or bound (cost_of (view.from link)) + view.cost link

-- the start costs nothing; a walk of its cost leads to each node that has one; no cost is above the bound; and costs rise along links
-- by no more than these cost
pub record IsReach {L : Type 0} (view : LinkView L) (IsLink : L → Type 0) (from : ℕ) (bound : Option ℕ) (cost_of : ℕ → Option ℕ) : Type 0 where
  pub start : cost_of from ≡ Some 0
  pub walks : (n cost : ℕ) → cost_of n ≡ Some cost → (walk : List L) × IsWalk view IsLink from n walk × (walk_cost view walk ≡ cost)
  pub low : (n cost : ℕ) → cost_of n ≡ Some cost → IsWithin bound cost
  pub rises : Rises view IsLink bound cost_of

-- the costs of exactly the nodes that cost less than the limit, by node
pub record AreBelow {P : Type 0} (view : PotentialView P) (cost_of : ℕ → Option ℕ) (limit : ℕ) (listed : List P) : Type 0 where
  pub only : (p : P) → Contains listed p → (cost_of (view.node p) ≡ Some (view.value p)) × (view.value p < limit)
  pub all : (n : ℕ) → CostsLess cost_of limit n → (p : P) × Contains listed p × (view.node p ≡ n)
  pub rising : Ascends view listed
