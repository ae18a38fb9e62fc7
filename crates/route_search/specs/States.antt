-- What a search knows between two nodes that it settles, and how that changes. The code's own machinery.
use Rattle.std.specs.Prelude.{◌≡◌, ◌⊎◌, ℕ, suc, ◌+◌, ◌*◌, ◌^◌, ◌<◌, ◌≤◌, Bool, true, false, List, [], ◌∷◌, length, Option, Some, None, replicate, slice_index_or, slice_set, if◌then◌else◌}
use Rattle.venue_types.specs.declared.link.Link.{Link}
use Rattle.route_search.specs.declared.frontier.Frontier.{Frontier}
use Rattle.route_search.specs.declared.labels.Last.{Last}
use Rattle.route_search.specs.declared.state.State.{State}
use Rattle.route_search.specs.Labels.{no_cost, cost_at, last_at, IsLabelled, IsTree, IsFound, IsSpent, IsRelaxed}
use Rattle.route_search.specs.Waiting.{Waits, IsPushed}

unfoldable pub settled_at : List Bool → ℕ → Bool
settled_at settled n = slice_index_or settled n false

-- the numbers of the nodes that aren't settled, summed
unfoldable pub open_sum : (ℕ → ℕ) → ℕ → List Bool → ℕ
open_sum count i [] = 0
open_sum count i (b ∷ bs) = (if b then 0 else count i) + open_sum count (suc i) bs

-- ---- what is known of a node

abbrev pub cost_in : State → ℕ → ℕ
cost_in state n = cost_at state.costs.items n

abbrev pub last_in : State → ℕ → Last
last_in state n = last_at state.lasts n

abbrev pub settled_in : State → ℕ → Bool
settled_in state n = settled_at state.settled.items n

abbrev pub IsReached : State → ℕ → Type 0
IsReached state n = IsLabelled state.costs.items n

-- every link of the family out of the node leads to its end at no more than is known there
abbrev pub IsRelaxedFrom : (Link → Type 0) → State → ℕ → Type 0
IsRelaxedFrom IsLink state n = (link : Link) → IsLink link → link.from ≡ n → IsRelaxed state.costs.items link

-- ---- the tree of known walks

-- the walk to the node is one to a settled node, and the link
pub record IsStep (IsLink : Link → Type 0) (state : State) (n : ℕ) (link : Link) : Type 0 where
  pub is : IsLink link
  pub to : link.to ≡ n
  pub done : settled_in state link.from ≡ true
  pub cost : cost_in state n ≡ cost_in state link.from + link.cost
  pub depth : (last_in state n).depth ≡ (last_in state link.from).depth + 1

-- the walk to the node has no links
pub record IsEmpty (state : State) (n : ℕ) : Type 0 where
  pub cost : cost_in state n ≡ 0
  pub depth : (last_in state n).depth ≡ 0

abbrev pub ComesBy : (Link → Type 0) → State → ℕ → Option Link → Type 0
ComesBy IsLink state n None = IsEmpty state n
ComesBy IsLink state n (Some link) = IsStep IsLink state n link

-- cost and depth are small, by the number of settled nodes
pub record Room (nodes : ℕ) (settled : List Bool) (cost depth more : ℕ) : Type 0 where
  pub cost_room : cost + 6700000 * (open_sum (λ _. 1) 0 settled + more) ≤ 6700000 * nodes
  pub depth_room : depth + (open_sum (λ _. 1) 0 settled + more) ≤ nodes

-- an entry is of a node to which a walk is known that costs no more
pub record IsEntry (nodes : ℕ) (state : State) (now cost n : ℕ) : Type 0 where
  pub node : n < nodes
  pub late : now ≤ cost
  pub known : IsReached state n
  pub low : cost_in state n ≤ cost

-- settled nodes cost at most `now`, what waits costs no less, and all known walks go over settled nodes
pub record Grows (IsLink : Link → Type 0) (nodes : ℕ) (state : State) (now : ℕ) : Type 0 where
  pub costs_count : length state.costs.items ≡ nodes
  pub lasts_count : length state.lasts ≡ nodes
  pub settled_count : length state.settled.items ≡ nodes
  pub few : nodes ≤ 400000
  pub comes : (n : ℕ) → IsReached state n → ComesBy IsLink state n (last_in state n).by
  pub entries : (cost n : ℕ) → Waits state.frontier cost n → IsEntry nodes state now cost n
  pub below : (n : ℕ) → settled_in state n ≡ true → cost_in state n ≤ now
  pub small : (n : ℕ) → IsReached state n → Room nodes state.settled.items (cost_in state n) (last_in state n).depth 0

-- the walk without links leads to the start alone
pub record IsFrom (from : ℕ) (state : State) : Type 0 where
  pub start : cost_in state from ≡ 0
  pub only : (n : ℕ) → IsReached state n → (last_in state n).by ≡ None → n ≡ from

-- between two nodes: a node to which a walk is known waits at its cost, or is relaxed, as settled ones are
pub record IsBetween (IsLink : Link → Type 0) (nodes : ℕ) (state : State) : Type 0 where
  pub now : ℕ
  pub tree : Grows IsLink nodes state now
  pub done : (n : ℕ) → settled_in state n ≡ true → IsRelaxedFrom IsLink state n
  pub progress : (n : ℕ) → IsReached state n → Waits state.frontier (cost_in state n) n ⊎ IsRelaxedFrom IsLink state n

-- ---- the start and the end

-- a walk is known to the start alone, and it waits
pub record IsBegun (nodes from : ℕ) (state : State) : Type 0 where
  pub costs : state.costs.items ≡ slice_set (replicate nodes no_cost) from 0
  pub lasts : state.lasts ≡ replicate nodes (record { by = None; depth = 0 })
  pub settled : state.settled.items ≡ replicate nodes false
  pub waits : Waits state.frontier 0 from
  pub only : (cost n : ℕ) → Waits state.frontier cost n → (0 ≡ cost) × (from ≡ n)

-- below the bound all is known, or there is no bound and all that can be reached is known
pub record IsEnded (IsLink : Link → Type 0) (nodes from : ℕ) (bound : Option ℕ) (state : State) : Type 0 where
  pub tree : IsTree nodes from state.costs.items state.lasts
  pub near : (cost : ℕ) → bound ≡ Some cost → cost < 2 ^ 42
  pub found : (cost : ℕ) → bound ≡ Some cost → IsFound IsLink cost state.costs.items state.lasts
  pub spent : bound ≡ None → IsSpent IsLink state.costs.items state.lasts

-- ---- a label

-- what waits is one entry more, or stays
abbrev pub IsQueued : Bool → Frontier → Frontier → ℕ → ℕ → Type 0
IsQueued true old new cost node = IsPushed old new cost node
IsQueued false old new cost node = new ≡ old

-- the end of the link is known by it from now on
pub record IsLowered (old new : State) (link : Link) (waits : Bool) : Type 0 where
  pub costs : new.costs.items ≡ slice_set old.costs.items link.to (cost_in old link.from + link.cost)
  pub lasts : new.lasts
      ≡ slice_set old.lasts link.to (record { by = Some link; depth = (last_in old link.from).depth + 1 })
  pub settled : new.settled.items ≡ old.settled.items
  pub frontier : IsQueued waits old.frontier new.frontier (cost_in old link.from + link.cost) link.to
