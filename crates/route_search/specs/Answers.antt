-- What an answer to the question for a way says, over the links of a family.
use Rattle.std.specs.Prelude.{◌<◌, ◌≤◌, ◌^◌, ◌↔◌, ℕ, List, All, Contains, length}
use Rattle.std.specs.List.Sorted.{IsStrictlyIncreasing}
use Rattle.venue_types.specs.declared.link.Link.{Link}
use Rattle.venue_types.specs.declared.link.Potential.{Potential}
use Rattle.walk_laws.specs.Walks.{HasWalk, HasNoWalk, IsLeast}
use Rattle.walk_laws.specs.Certificates.{potential, Ascends, IsCertificate, IsCut}
use Rattle.link_graph.specs.Views.{link_view, potential_view}
use Rattle.route_search.specs.declared.found.Found.{Found}
use Rattle.route_search.specs.declared.found.Found.TheVariants.{Route, Cut}

-- a least walk of this cost, and potentials that rise by node, lie below the cost, and are a certificate that no walk costs less
pub record IsRoute (IsLink : Link → Type 0) (from to : ℕ) (walk : List Link) (cost : ℕ) (listed : List Potential) : Type 0 where
  pub least : IsLeast link_view IsLink from to walk cost
  pub certificate : IsCertificate link_view IsLink from to cost (potential potential_view cost listed)
  pub rising : Ascends potential_view listed
  pub below : All (λ (p : Potential). p.value < cost) listed

-- there is no walk, and exactly the nodes to which a walk leads, rising, which are a cut
pub record IsNoRoute (IsLink : Link → Type 0) (from to : ℕ) (reached : List ℕ) : Type 0 where
  pub none : HasNoWalk link_view IsLink from to
  pub cut : IsCut link_view IsLink from to reached
  pub exact : (n : ℕ) → Contains reached n ↔ HasWalk link_view IsLink from n
  pub rising : IsStrictlyIncreasing reached

-- a route where there is one, else what is reached
abbrev pub IsAnswer : (Link → Type 0) → ℕ → ℕ → Found → Type 0
IsAnswer IsLink from to (Route walk cost potentials) = IsRoute IsLink from to walk cost potentials
IsAnswer IsLink from to (Cut reached) = IsNoRoute IsLink from to reached

-- a walk of no more links than there are nodes, which costs less than 2^42 centimetres, and potentials of nodes
pub record IsSmallRoute (nodes : ℕ) (walk : List Link) (cost : ℕ) (listed : List Potential) : Type 0 where
  pub few : length walk ≤ nodes
  pub cheap : cost < 2 ^ 42
  pub nodes_alone : All (λ (p : Potential). p.node < nodes) listed

-- what is found keeps within a network of so many nodes
abbrev pub IsSmall : ℕ → Found → Type 0
IsSmall nodes (Route walk cost potentials) = IsSmallRoute nodes walk cost potentials
IsSmall nodes (Cut reached) = All (λ (n : ℕ). n < nodes) reached
