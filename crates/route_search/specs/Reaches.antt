-- What a search with several ends hands out.
use Rattle.std.specs.Prelude.{◌≡◌, ◌≢◌, ℕ, ◌^◌, ◌<◌, Bool, true, List, AllPairs, Contains, Option, Some, length}
use Rattle.venue_types.specs.declared.link.Link.{Link}
use Rattle.walk_laws.specs.Reaches.{CostsLess, IsReach}
use Rattle.link_graph.specs.Views.{link_view}
use Rattle.route_search.specs.declared.reached.Reach.{Reach}
use Rattle.route_search.specs.Handed.{handed}
use Rattle.route_search.specs.Labels.{cost_at, AreOver}

-- the cost below which everything is known; none where all that can be reached is known
unfoldable pub bound_of : Reach → Option ℕ
bound_of reach = reach.bound

-- the cost of a node, where it is known
unfoldable pub cost_of : Reach → ℕ → Option ℕ
cost_of reach n = handed reach.bound (cost_at reach.costs.items n)

-- the number of nodes
unfoldable pub nodes_of : Reach → ℕ
nodes_of reach = length reach.costs.items

-- costs are those of a search from the node over the family, and known walks go over its links
pub record IsReachOver (IsLink : Link → Type 0) (from : ℕ) (reach : Reach) : Type 0 where
  pub starts : reach.from ≡ from
  pub knows : IsReach link_view IsLink from (bound_of reach) (cost_of reach)
  pub over : AreOver IsLink reach.costs.items reach.lasts

-- so many different ends that cost less than the limit
pub record AreEnds (is_end : ℕ → Bool) (cost_of_node : ℕ → Option ℕ) (count limit : ℕ) (found : List ℕ) : Type 0 where
  pub many : length found ≡ count
  pub different : AllPairs (λ a b. a ≢ b) found
  pub ends : (n : ℕ) → Contains found n → is_end n ≡ true
  pub cheap : (n : ℕ) → Contains found n → CostsLess cost_of_node limit n

-- where there is a bound, so many different ends cost less than it
abbrev pub HasEnough : (ℕ → Bool) → ℕ → Reach → Type 0
HasEnough is_end count reach = (bound : ℕ) → bound_of reach ≡ Some bound → (found : List ℕ) × AreEnds is_end (cost_of reach) count bound found

-- within a network of so many nodes: costs are below 2^42 centimetres, and of nodes of the network
pub record IsSmallReach (nodes : ℕ) (reach : Reach) : Type 0 where
  pub nodes_are : nodes_of reach ≡ nodes
  pub cheap : (n cost : ℕ) → cost_of reach n ≡ Some cost → cost < 2 ^ 42
  pub there : (n cost : ℕ) → cost_of reach n ≡ Some cost → n < nodes
  pub near : (bound : ℕ) → bound_of reach ≡ Some bound → bound < 2 ^ 42
