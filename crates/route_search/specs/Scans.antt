-- What a search knows among the links of one node. The code's own machinery.
use Rattle.std.specs.Prelude.{◌≡◌, ◌≢◌, ◌⊎◌, ℕ, ◌+◌, ◌<◌, ◌≤◌, true, length, Option, Some, None, Contains, slice_get}
use Rattle.venue_types.specs.declared.link.Link.{Link}
use Rattle.link_graph.specs.declared.graph.Graph.{Graph}
use Rattle.link_graph.specs.declared.stretches.Stretch.{Stretch}
use Rattle.link_graph.specs.declared.stretches.Way.{Way}
use Rattle.link_graph.specs.declared.stretches.Way.TheVariants.{Inside, Between}
use Rattle.link_graph.specs.Detours.{IsKnownFrom}
use Rattle.link_graph.specs.Graphs.{network}
use Rattle.link_graph.specs.Marking.{AreMarksOf, marked}
use Rattle.link_graph.specs.Networks.{Network, GoesBy, IsPassable, links_out}
use Rattle.route_search.specs.declared.node_stretch.NodeStretch.{NodeStretch}
use Rattle.route_search.specs.declared.state.State.{State}
use Rattle.route_search.specs.declared.ways.Ways.{Ways}
use Rattle.route_search.specs.Labels.{IsRelaxed}
use Rattle.route_search.specs.States.{cost_in, last_in, settled_in, IsReached, IsRelaxedFrom, Room, Grows}
use Rattle.route_search.specs.Waiting.{Waits, waiting}

-- a link of the graph that the profile may pass and nothing marked closes for its number
abbrev pub CanPass : Ways → Link → Type 0
CanPass ways link = IsPassable (network ways.graph.now) (marked (network ways.graph.now) ways.marks.now ways.number) ways.profile.now link

abbrev pub node_count : Graph → ℕ
node_count graph = length (network graph).nodes

-- how many links start at a node
abbrev pub out_count_of : Graph → ℕ → ℕ
out_count_of graph n = length (links_out (network graph) n)

-- all links out of the node, if any, go across the unit of this number, and are known from another node
abbrev pub IsQuiet : Network → ℕ → ℕ → ℕ → Type 0
IsQuiet given via a n = (link : Link) → Contains given.links link → link.from ≡ n → (link.via ≡ via) × (given.first_unit ≤ via) × IsKnownFrom given a link

-- the node is known by a link out of another, and leads to nothing that isn't known from there
pub record HangsOn (given : Network) (state : State) (node n : ℕ) : Type 0 where
  pub link : Link
  pub by : (last_in state n).by ≡ Some link
  pub from : link.from ≡ node
  pub quiet : IsQuiet given link.via link.from n

-- among the links of a node that is being settled: any other node to which a walk is known waits at its cost, is relaxed, or hangs on this one
pub record IsAmid (given : Network) (IsLink : Link → Type 0) (nodes node : ℕ) (state : State) : Type 0 where
  pub tree : Grows IsLink nodes state (cost_in state node)
  pub here : settled_in state node ≡ true
  pub known : IsReached state node
  pub room : Room nodes state.settled.items (cost_in state node) (last_in state node).depth 1
  pub done : (n : ℕ) → n ≢ node → settled_in state n ≡ true → IsRelaxedFrom IsLink state n
  pub progress : (n : ℕ) → n ≢ node → IsReached state n
      → Waits state.frontier (cost_in state n) n ⊎ IsRelaxedFrom IsLink state n ⊎ HangsOn given state node n

-- from one moment to a later one while a node is being settled: costs only fall, its own stays, no walk without links is new, and so
-- many entries were added at most
pub record IsLater (node more : ℕ) (old new : State) : Type 0 where
  pub settled : new.settled.items ≡ old.settled.items
  pub cost : cost_in new node ≡ cost_in old node
  pub last : last_in new node ≡ last_in old node
  pub lower : (n : ℕ) → cost_in new n ≤ cost_in old n
  pub roots : (n : ℕ) → IsReached new n → (last_in new n).by ≡ None → IsReached old n × ((last_in old n).by ≡ None)
  pub entries : waiting new.frontier ≤ waiting old.frontier + more

-- the links at these places out of the node are relaxed
abbrev pub AreRelaxed : Network → (Link → Type 0) → State → ℕ → ℕ → ℕ → Type 0
AreRelaxed given IsLink state node first count =
    (place : ℕ) (link : Link) → first ≤ place → place < first + count → slice_get (links_out given node) place ≡ Some link → IsLink link
    → IsRelaxed state.costs.items link

-- the links at these places were regarded
pub record IsScanned (given : Network) (IsLink : Link → Type 0) (nodes node first count : ℕ) (old new : State) : Type 0 where
  pub amid : IsAmid given IsLink nodes node new
  pub later : IsLater node count old new
  pub relaxed : AreRelaxed given IsLink new node first count

-- the link was followed, if it can be
pub record IsFollowed (given : Network) (IsLink : Link → Type 0) (nodes : ℕ) (link : Link) (old new : State) : Type 0 where
  pub amid : IsAmid given IsLink nodes link.from new
  pub later : IsLater link.from 1 old new
  pub relaxed : IsLink link → IsRelaxed new.costs.items link

-- ---- the same over the links of a graph that may be passed

-- one mark for each feature that can be closed, and the number is one that a profile may have
abbrev pub AreMarked : Ways → Type 0
AreMarked ways = AreMarksOf (network ways.graph.now) ways.marks.now × (ways.number < 16)

abbrev pub Regards : Ways → ℕ → State → Type 0
Regards ways node state = IsAmid (network ways.graph.now) (CanPass ways) (node_count ways.graph.now) node state

abbrev pub Regarded : Ways → ℕ → ℕ → ℕ → State → State → Type 0
Regarded ways node first count old new =
    IsScanned (network ways.graph.now) (CanPass ways) (node_count ways.graph.now) node first count old new

abbrev pub Followed : Ways → Link → State → State → Type 0
Followed ways link old new = IsFollowed (network ways.graph.now) (CanPass ways) (node_count ways.graph.now) link old new

-- ---- stretches

-- a stretch of the node
pub record IsStretchOf (given : Network) (at : NodeStretch) : Type 0 where
  pub node : at.node < length given.nodes
  pub here : slice_get (given.stretches at.node) at.k ≡ Some at.stretch
  pub within : at.stretch.first + at.stretch.count ≤ length (links_out given at.node)

-- the links that go this way can't be passed
abbrev pub IsPassedOver : Network → (Link → Type 0) → Way → Type 0
IsPassedOver given IsLink way = (link : Link) → GoesBy given way link → IsLink link → ⊥

-- the number of a unit is one of what can be closed
abbrev pub IsMarkable : Network → Way → Type 0
IsMarkable given (Inside via kind restricted) = via < length given.closables
IsMarkable given Between = Unit {0}

-- the way goes across the unit of this number
abbrev pub IsAcross : ℕ → Way → Type 0
IsAcross via (Inside own kind restricted) = own ≡ via
IsAcross via Between = ⊥

-- the node is the start of the last link, which goes by this way across a unit
pub record IsKnownStart (last : Option Link) (way : Way) (a : ℕ) : Type 0 where
  pub link : Link
  pub by : last ≡ Some link
  pub from : link.from ≡ a
  pub across : IsAcross link.via way

-- the links of the stretch, if it has any, go across the unit of this number, and are known from another node
abbrev pub IsOwn : Network → ℕ → ℕ → ℕ → Stretch → Type 0
IsOwn given via a n stretch =
    (place : ℕ) (link : Link) → stretch.first ≤ place → place < stretch.first + stretch.count → slice_get (links_out given n) place ≡ Some link
    → (link.via ≡ via) × (given.first_unit ≤ via) × IsKnownFrom given a link
