-- The targets of which a cost is known, and the walks to the first of them. The code's own machinery.
use Rattle.std.specs.Prelude.{◌≡◌, ◌≢◌, ◌↔◌, ℕ, ◌≤◌, Bool, true, false, List, map, length, slice_index_or, All, AllPairs, Contains, Option, Some, option_map}
use Rattle.std.specs.declared.cmp.Ordering.{Ordering}
use Rattle.std.specs.Ordering.{nat_cmp, ordering_then}
use Rattle.venue_types.specs.declared.feature_id.FeatureId.{FeatureId}
use Rattle.venue_types.specs.declared.settings.Profile.{Profile}
use Rattle.nearest_laws.specs.Nearest.{IsNearer}
use Rattle.walk_laws.specs.Reaches.{CostsLess}
use Rattle.walk_laws.specs.Walks.{IsLeast}
use Rattle.link_graph.specs.Networks.{Network, IsPassable}
use Rattle.link_graph.specs.Views.{link_view}
use Rattle.route_search.specs.declared.reached.Reach.{Reach}
use Rattle.route_search.specs.Reaches.{IsReachOver, bound_of, cost_of, nodes_of}
use Rattle.nearest_place.specs.declared.entries.Entry.{Entry}
use Rattle.nearest_place.specs.declared.near.NearWalk.{NearWalk}

-- a flag for each node, set exactly for the targets
abbrev pub AreFlags : List ℕ → List Bool → Type 0
AreFlags targets flags = (n : ℕ) → (slice_index_or flags n false ≡ true) ↔ Contains targets n

-- where there is a bound, so many different targets cost less than it
pub record AreTargets (targets : List ℕ) (cost_of_node : ℕ → Option ℕ) (count limit : ℕ) (found : List ℕ) : Type 0 where
  pub many : length found ≡ count
  pub different : AllPairs (λ a b. a ≢ b) found
  pub targets_are : (n : ℕ) → Contains found n → Contains targets n
  pub cheap : (n : ℕ) → Contains found n → CostsLess cost_of_node limit n

abbrev pub HasTargets : List ℕ → ℕ → Reach → Type 0
HasTargets targets count reach = (bound : ℕ) → bound_of reach ≡ Some bound → (found : List ℕ) × AreTargets targets (cost_of reach) count bound found

-- the entry of a node
abbrev pub entry : ℕ → ℕ → Entry
entry n cost = record { cost = cost; node = n }

-- the entry of a node, where its cost is known
unfoldable pub entry_at : (ℕ → Option ℕ) → ℕ → Option Entry
entry_at cost_of_node n = option_map (entry n) (cost_of_node n)

-- by cost, then by node
abbrev pub entry_cmp : Entry → Entry → Ordering
entry_cmp a b = ordering_then (nat_cmp a.cost b.cost) (nat_cmp a.node b.node)

-- the nodes of entries
abbrev pub entry_nodes : List Entry → List ℕ
entry_nodes entries = map (λ (e : Entry). e.node) entries

-- the first of the targets of which a cost is known, as many as the limit or all
pub record AreFirstEntries (cost_of_node : ℕ → Option ℕ) (targets : List ℕ) (limit : ℕ) (entries : List Entry) : Type 0 where
  pub few : length entries ≤ limit
  pub target : All (λ (e : Entry). Contains targets e.node) entries
  pub known : All (λ (e : Entry). cost_of_node e.node ≡ Some e.cost) entries
  pub ordered : AllPairs (λ (e later : Entry). IsNearer e.cost e.node later.cost later.node) entries
  pub others : (n cost : ℕ) → Contains targets n → ¬ Contains (entry_nodes entries) n → cost_of_node n ≡ Some cost
      → (length entries ≡ limit) × All (λ (e : Entry). IsNearer e.cost e.node cost n) entries

-- the entry of a row
abbrev pub entry_of_row : NearWalk → Entry
entry_of_row row = entry row.node row.cost

-- the walk is a least one of the cost that is told, over whatever links the search went
pub record IsWalked (reach : Reach) (row : NearWalk) : Type 0 where
  pub least : (network : Network) (closed : List FeatureId) (profile : Profile) (from : ℕ) → IsReachOver (IsPassable network closed profile) from reach
      → IsLeast link_view (IsPassable network closed profile) from row.node row.walk row.cost
  pub few : length row.walk ≤ nodes_of reach

-- the rows of these entries, each with its walk
pub record AreRows (reach : Reach) (entries : List Entry) (rows : List NearWalk) : Type 0 where
  pub entries_are : map entry_of_row rows ≡ entries
  pub walked : All (IsWalked reach) rows
