-- The way across a unit, over a network, and what is known from its start.
use Rattle.std.specs.Prelude.{◌≡◌, ◌⊎◌, ℕ, ◌+◌, ◌<◌, ◌≤◌, Option, Some, None, Contains, slice_get}
use Rattle.venue_types.specs.declared.link.Link.{Link}
use Rattle.link_graph.specs.declared.new_links.NewLink.{NewLink}
use Rattle.link_graph.specs.declared.stretches.Stretch.{Stretch}
use Rattle.link_graph.specs.declared.stretches.Way.{Way}
use Rattle.link_graph.specs.declared.stretches.Way.TheVariants.{Inside, Between}
use Rattle.link_graph.specs.Networks.{Network, links_out}

-- the second link leads to a, or one from a leads to its end by the same way
abbrev pub IsKnownFrom : Network → ℕ → Link → Type 0
IsKnownFrom given a second = (second.to ≡ a) ⊎ ((x : Link) × Contains given.links x × (x.from ≡ a) × (x.to ≡ second.to) × (x.via ≡ second.via))

-- it is known from a node, if there is one from which something is known
abbrev pub IsKnown : Network → Option ℕ → Link → Type 0
IsKnown given None second = ⊥
IsKnown given (Some a) second = IsKnownFrom given a second

-- the node, if there is one, has a link across the unit
abbrev pub HasLinkAcross : Network → Way → Option ℕ → Type 0
HasLinkAcross given way None = Unit {0}
HasLinkAcross given (Inside via kind restricted) (Some a) = (x : Link) × Contains given.links x × (x.from ≡ a) × (x.via ≡ via)
HasLinkAcross given Between (Some a) = ⊥

-- it stands in the stretch of the node, at this place or behind, and leads where it says
pub record IsNewIn (given : Network) (n : ℕ) (stretch : Stretch) (place : ℕ) (found : NewLink) : Type 0 where
  pub behind : place ≤ found.place
  pub first : stretch.first ≤ found.place
  pub within : found.place < stretch.first + stretch.count
  pub end : (link : Link) → slice_get (links_out given n) found.place ≡ Some link → link.to ≡ found.to

-- the places of the stretch that lie in front of what was found, or all where nothing was
abbrev pub IsInFront : Stretch → Option NewLink → ℕ → Type 0
IsInFront stretch None place = (stretch.first ≤ place) × (place < stretch.first + stretch.count)
IsInFront stretch (Some found) place = (stretch.first ≤ place) × (place < found.place)

-- the links of the stretch from this place on, in front of what was found or all, are known
abbrev pub AreKnown : Network → ℕ → Stretch → Option ℕ → ℕ → Option NewLink → Type 0
AreKnown given n stretch known from found =
    (place : ℕ) (second : Link) → from ≤ place → IsInFront stretch found place → slice_get (links_out given n) place ≡ Some second → IsKnown given known second
