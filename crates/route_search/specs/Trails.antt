-- What the parts of an answer say of what a search knows. The code's own machinery.
use Rattle.std.specs.Prelude.{◌≡◌, ℕ, ◌+◌, ◌<◌, List, length, Contains, Some}
use Rattle.std.specs.List.Sorted.{IsStrictlyIncreasing}
use Rattle.venue_types.specs.declared.link.Link.{Link}
use Rattle.venue_types.specs.declared.link.Potential.{Potential}
use Rattle.walk_laws.specs.Walks.{IsWalk, walk_cost}
use Rattle.walk_laws.specs.Certificates.{Ascends}
use Rattle.link_graph.specs.Views.{link_view, potential_view}
use Rattle.route_search.specs.declared.labels.Last.{Last}
use Rattle.route_search.specs.Labels.{IsTree, IsLabelled, cost_at, last_at}

-- costs and a start that the last links fit, where a walk to the node is known
pub record IsKnown (lasts : List Last) (to : ℕ) : Type 0 where
  pub costs : List ℕ
  pub from : ℕ
  pub tree : IsTree (length costs) from costs lasts
  pub there : IsLabelled costs to

-- the known walk to some node ends with the link
pub record IsLast (costs : List ℕ) (lasts : List Last) (link : Link) : Type 0 where
  pub node : ℕ
  pub known : IsLabelled costs node
  pub by : (last_at lasts node).by ≡ Some link

-- a walk over last links, which costs what is known of its end beyond what is known of its start, and has as many links
pub record IsTrail (costs : List ℕ) (lasts : List Last) (from to : ℕ) (walk : List Link) : Type 0 where
  pub leads : IsWalk link_view (IsLast costs lasts) from to walk
  pub costs_more : cost_at costs from + walk_cost link_view walk ≡ cost_at costs to
  pub goes_deeper : (last_at lasts from).depth + length walk ≡ (last_at lasts to).depth

-- exactly those of the first nodes that cost less, rising
pub record AreNodesBelow (costs : List ℕ) (limit count : ℕ) (cheaper : List ℕ) : Type 0 where
  pub only : (n : ℕ) → Contains cheaper n → (n < count) × (cost_at costs n < limit)
  pub all : (n : ℕ) → n < count → cost_at costs n < limit → Contains cheaper n
  pub rising : IsStrictlyIncreasing cheaper

-- the potential is the cost of one of the first nodes, which costs less
pub record IsPotentialBelow (costs : List ℕ) (limit count : ℕ) (p : Potential) : Type 0 where
  pub node : p.node < count
  pub value : p.value ≡ cost_at costs p.node
  pub below : p.value < limit

-- the costs of exactly those of the first nodes that cost less, by node
pub record ArePotentialsBelow (costs : List ℕ) (limit count : ℕ) (listed : List Potential) : Type 0 where
  pub only : (p : Potential) → Contains listed p → IsPotentialBelow costs limit count p
  pub all : (n : ℕ) → n < count → cost_at costs n < limit → Contains listed (record { node = n; value = cost_at costs n })
  pub rising : Ascends potential_view listed
