-- What a profile passes of a network, as tests: the code's own machinery, which no public contract cites.
use Rattle.std.specs.Prelude.{◌≡◌, ℕ, ◌<◌, ◌≤◌, ◌==◌, List, length, get_or, map, filter, Bool, false, not, ◌&&◌, ◌||◌, Some, None, slice_get}
use Rattle.venue_types.specs.declared.feature_id.FeatureId.{FeatureId}
use Rattle.venue_types.specs.declared.kind.Kind.{Kind}
use Rattle.venue_types.specs.declared.link.Link.{Link}
use Rattle.venue_types.specs.declared.settings.Profile.{Profile}
use Rattle.imdf_access.specs.declared.parts.EndFacts.{EndFacts}
use Rattle.imdf_access.specs.Access.{is_allowed, passes}
use Rattle.link_graph.specs.Networks.{Network, link_facts}
use Rattle.route_certificate.specs.declared.table.TableLink.{TableLink}

-- every number but this one
abbrev pub other_than : ℕ → ℕ → Bool
other_than a b = not (a == b)

-- whether somebody with the profile may go by the kind, across a unit that is restricted or not
unfoldable pub passes_by : Profile → Kind → Bool → Bool
passes_by profile kind restricted = passes profile kind && (not restricted || profile.restricted)

-- whether somebody with the profile may pass an end that asks this
unfoldable pub passes_facts : Profile → EndFacts → Bool
passes_facts profile facts =
    (((not facts.out && (not facts.restricted || profile.restricted)) && (not facts.revolving || profile.revolving))
    && (not facts.turnstile || profile.turnstile))
    && (not facts.unmarked || not profile.marked)

-- whether somebody with the profile may pass the node
unfoldable pub passes_node : Network → Profile → ℕ → Bool
passes_node network profile n = passes_facts profile (network.ends n)

-- a set of the places of a room, so many: in it are those of the first so many of these members that pass the test, and no others
pub record AreMarked (ok : ℕ → Bool) (members : List ℕ) (first size : ℕ) (mask : List Bool) : Type 0 where
  pub count : length mask ≡ size
  pub marked : (j : ℕ) → j < first → get_or mask j false ≡ ok (get_or members j 0)
  pub rest : (j : ℕ) → first ≤ j → get_or mask j false ≡ false

-- whether the profile allows the link
unfoldable pub passes_link : Network → Profile → Link → Bool
passes_link network profile link = is_allowed profile (link_facts network link)

-- the identifier at this place
unfoldable pub id_at : List FeatureId → ℕ → FeatureId
id_at ids k = elim (slice_get ids k) [ None ↦ record { 0 = 0 } | Some id ↦ id ]

-- a link as the row of a table
unfoldable pub link_row : Network → Link → TableLink
link_row network link = record { from = link.from; to = link.to; cost = link.cost; via = id_at network.closables link.via }

-- a row for each of these links that the profile allows, in their order
unfoldable pub rows_of : Network → Profile → List Link → List TableLink
rows_of network profile links = map (link_row network) (filter (passes_link network profile) links)
