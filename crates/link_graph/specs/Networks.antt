-- What a graph is seen as, whatever it keeps.
use Rattle.std.specs.Prelude.{◌≡◌, ℕ, ◌+◌, ◌<◌, ◌≤◌, ◌==◌, List, [], ◌∷◌, filter, length, Option, Some, Contains, slice_get, Bool, ◌||◌}
use Rattle.venue_types.specs.declared.feature_id.FeatureId.{FeatureId}
use Rattle.venue_types.specs.declared.features.Features.{Features}
use Rattle.venue_types.specs.declared.kind.Kind.{Kind}
use Rattle.venue_types.specs.declared.link.Link.{Link}
use Rattle.venue_types.specs.declared.link.LinkFacts.{LinkFacts}
use Rattle.venue_types.specs.declared.link.Node.{Node}
use Rattle.venue_types.specs.declared.settings.Profile.{Profile}
use Rattle.venue_types.specs.declared.settings.Settings.{Settings}
use Rattle.imdf_access.specs.declared.parts.EndFacts.{EndFacts}
use Rattle.imdf_access.specs.Access.{IsAllowed}
use Rattle.venue_nodes.specs.Nodes.{nodes, place_of, closables}
use Rattle.link_graph.specs.declared.stretches.Stretch.{Stretch}
use Rattle.link_graph.specs.declared.stretches.Way.{Way}
use Rattle.link_graph.specs.declared.stretches.Way.TheVariants.{Inside, Between}
use Rattle.link_graph.specs.Links.{links, first_unit}
use Rattle.link_graph.specs.Facts.{facts_at, IsOpenAmong}

-- the nodes; the node at which a feature is; what can be closed, and the number from which on that is a unit; what a node asks of
-- who passes it; whether what can be closed is a restricted unit; the links in their order; and how those out of a node lie
pub record Network : Type 0 where
  pub nodes : List Node
  pub place : FeatureId → Option ℕ
  pub closables : List FeatureId
  pub first_unit : ℕ
  pub ends : ℕ → EndFacts
  pub barred : ℕ → Bool
  pub links : List Link
  pub stretches : ℕ → List Stretch

-- what is asked by a way of the kind, barred or not, and by what stands at both ends
abbrev pub joined_facts : Kind → Bool → EndFacts → EndFacts → LinkFacts
joined_facts kind barred from to = record {
  kind = kind;
  restricted = barred || (from.restricted || to.restricted);
  revolving = from.revolving || to.revolving;
  turnstile = from.turnstile || to.turnstile;
  unmarked = from.unmarked || to.unmarked;
  out = from.out || to.out;
}

-- what a link asks of who uses it
unfoldable pub link_facts : Network → Link → LinkFacts
link_facts network link = joined_facts link.kind (network.barred link.via) (network.ends link.from) (network.ends link.to)

-- the links that start at a node, in their order
abbrev pub links_out : Network → ℕ → List Link
links_out network n = filter (λ (link : Link). link.from == n) network.links

-- neither the way of the link nor the feature at either end is closed
abbrev pub IsFree : Network → List FeatureId → Link → Type 0
IsFree network closed link = IsOpenAmong network.nodes network.closables closed link

-- it is one of the links, the profile allows it, and nothing at it is closed
pub record IsPassable (network : Network) (closed : List FeatureId) (profile : Profile) (link : Link) : Type 0 where
  pub there : Contains network.links link
  pub allowed : IsAllowed profile (link_facts network link)
  pub free : IsFree network closed link

-- the network is that of these features
pub record IsNetworkOf (features : Features) (settings : Settings) (network : Network) : Type 0 where
  pub nodes_are : network.nodes ≡ nodes features settings
  pub place_is : (id : FeatureId) → network.place id ≡ place_of features id
  pub closables_are : network.closables ≡ closables features
  pub first_unit_is : network.first_unit ≡ first_unit features
  pub links_are : network.links ≡ links features settings
  pub facts_are : (link : Link) → Contains (links features settings) link → link_facts network link ≡ facts_at features settings link

-- the stretches follow each other without a gap, the first begins at this place, and the last ends at that
abbrev pub Follow : ℕ → ℕ → List Stretch → Type 0
Follow at end [] = at ≡ end
Follow at end (stretch ∷ rest) = (stretch.first ≡ at) × Follow (at + stretch.count) end rest

-- the link goes this way: across the unit of this number and kind, which is barred or not; or by a relationship
abbrev pub GoesBy : Network → Way → Link → Type 0
GoesBy network (Inside via kind restricted) link = (link.via ≡ via) × (link.kind ≡ kind) × (network.barred via ≡ restricted) × (network.first_unit ≤ via)
GoesBy network Between link = link.via < network.first_unit

-- a way inside a unit has links
abbrev pub IsSome : Way → ℕ → Type 0
IsSome (Inside via kind restricted) count = 0 < count
IsSome Between count = Unit {0}

-- the stretches of a node cover the places of its links, each has links that go its way, and none inside a unit is empty
pub record AreStretches (network : Network) (n : ℕ) : Type 0 where
  pub cover : Follow 0 (length (links_out network n)) (network.stretches n)
  pub some : (stretch : Stretch) → Contains (network.stretches n) stretch → IsSome stretch.way stretch.count
  pub of_way : (stretch : Stretch) (place : ℕ) (link : Link) → Contains (network.stretches n) stretch → stretch.first ≤ place → place < stretch.first + stretch.count
      → slice_get (links_out network n) place ≡ Some link → GoesBy network stretch.way link
