-- What a search knows of nodes: the least costs of walks that it found, and how these end. The code's own machinery.
use Rattle.std.specs.Prelude.{◌≡◌, ℕ, ◌+◌, ◌-◌, ◌^◌, ◌<◌, ◌≤◌, List, length, Some, None, slice_index_or}
use Rattle.venue_types.specs.declared.link.Link.{Link}
use Rattle.route_search.specs.declared.labels.Last.{Last}

-- the cost of a node to which no walk is known
abbrev pub no_cost : ℕ
no_cost = 2 ^ 64 - 1

unfoldable pub cost_at : List ℕ → ℕ → ℕ
cost_at costs n = slice_index_or costs n no_cost

-- nothing is known
abbrev pub no_last : Last
no_last = record { by = None; depth = 0 }

unfoldable pub last_at : List Last → ℕ → Last
last_at lasts n = slice_index_or lasts n no_last

-- a walk to the node is known
abbrev pub IsLabelled : List ℕ → ℕ → Type 0
IsLabelled costs n = cost_at costs n < no_cost

-- the node is the start
pub record IsFirst (costs : List ℕ) (lasts : List Last) (from n : ℕ) : Type 0 where
  pub node : n ≡ from
  pub cost : cost_at costs n ≡ 0
  pub depth : (last_at lasts n).depth ≡ 0

-- the walk to the node is one to where the link starts, and the link
pub record IsHop (costs : List ℕ) (lasts : List Last) (n : ℕ) (link : Link) : Type 0 where
  pub to : link.to ≡ n
  pub before : IsLabelled costs link.from
  pub cost : cost_at costs n ≡ cost_at costs link.from + link.cost
  pub depth : (last_at lasts n).depth ≡ (last_at lasts link.from).depth + 1

-- every known walk leads back to the start, costs little, and has no more links than there are nodes
pub record IsTree (nodes from : ℕ) (costs : List ℕ) (lasts : List Last) : Type 0 where
  pub costs_count : length costs ≡ nodes
  pub lasts_count : length lasts ≡ nodes
  pub start : cost_at costs from ≡ 0
  pub first : (n : ℕ) → IsLabelled costs n → (last_at lasts n).by ≡ None → IsFirst costs lasts from n
  pub hop : (n : ℕ) (link : Link) → IsLabelled costs n → (last_at lasts n).by ≡ Some link → IsHop costs lasts n link
  pub small : (n : ℕ) → IsLabelled costs n → cost_at costs n < 2 ^ 42
  pub shallow : (n : ℕ) → IsLabelled costs n → (last_at lasts n).depth ≤ nodes

-- the last links of all known walks are of a family
abbrev pub AreOver : (Link → Type 0) → List ℕ → List Last → Type 0
AreOver IsLink costs lasts = (n : ℕ) (link : Link) → IsLabelled costs n → (last_at lasts n).by ≡ Some link → IsLink link

-- a link leads to its end at no more than is known there
abbrev pub IsRelaxed : List ℕ → Link → Type 0
IsRelaxed costs link = cost_at costs link.to ≤ cost_at costs link.from + link.cost

-- what is known below the bound is least over the family: every link out of a node that costs less was regarded
pub record IsFound (IsLink : Link → Type 0) (bound : ℕ) (costs : List ℕ) (lasts : List Last) : Type 0 where
  pub over : AreOver IsLink costs lasts
  pub relaxed : (link : Link) → IsLink link → cost_at costs link.from < bound → IsRelaxed costs link

-- all that can be reached is known over the family: every link out of a known node was regarded, and its end is known
pub record IsSpent (IsLink : Link → Type 0) (costs : List ℕ) (lasts : List Last) : Type 0 where
  pub over : AreOver IsLink costs lasts
  pub relaxed : (link : Link) → IsLink link → IsLabelled costs link.from → IsRelaxed costs link
  pub closed : (link : Link) → IsLink link → IsLabelled costs link.from → IsLabelled costs link.to
