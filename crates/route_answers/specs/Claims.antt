-- What a claim takes over of what a search found: the code's own machinery, which no public contract cites.
use Rattle.std.specs.Prelude.{◌≡◌, List, All, Contains, map}
use Rattle.venue_types.specs.declared.features.Features.{Features}
use Rattle.venue_types.specs.declared.link.Link.{Link}
use Rattle.venue_types.specs.declared.settings.Profile.{Profile}
use Rattle.venue_types.specs.declared.settings.Settings.{Settings}
use Rattle.imdf_access.specs.Access.{IsAllowed}
use Rattle.link_graph.specs.Networks.{Network, link_facts}
use Rattle.route_certificate.specs.declared.answer.Claim.{Claim}
use Rattle.route_certificate.specs.declared.answer.Claim.TheVariants as claim
use Rattle.route_search.specs.declared.found.Found.{Found}
use Rattle.route_search.specs.declared.found.Found.TheVariants as found
use Rattle.route_answers.specs.Places.{AreFirstPlaces}
use Rattle.route_answers.specs.Tables.{row_of, table_of}

-- these are links of the network, and the profile allows them
pub record AreAllowed (network : Network) (profile : Profile) (links : List Link) : Type 0 where
  pub there : All (Contains network.links) links
  pub allowed : All (λ (link : Link). IsAllowed profile (link_facts network link)) links

-- the links of the walk that was found, if one was
abbrev pub IsOverAllowed : Network → Profile → Found → Type 0
IsOverAllowed network profile (found.Route walk cost potentials) = AreAllowed network profile walk
IsOverAllowed network profile (found.Cut reached) = Unit {0}

-- the claim tells what was found, the links by the places of their rows in the table
abbrev pub IsTold : Features → Settings → Profile → Found → Claim → Type 0
IsTold features settings profile (found.Route walk cost potentials) (claim.Route sum steps at) =
    (sum ≡ cost) × (at ≡ potentials) × AreFirstPlaces (table_of features settings profile).links (map (row_of features) walk) steps
IsTold features settings profile (found.Route walk cost potentials) (claim.Nothing nodes) = ⊥
IsTold features settings profile (found.Cut reached) (claim.Route sum steps at) = ⊥
IsTold features settings profile (found.Cut reached) (claim.Nothing nodes) = nodes ≡ reached
