-- The table of the links that a profile may use.
use Rattle.std.specs.Prelude.{ℕ, List, map, filter, Some, None, slice_get}
use Rattle.venue_types.specs.declared.feature_id.FeatureId.{FeatureId}
use Rattle.venue_types.specs.declared.features.Features.{Features}
use Rattle.venue_types.specs.declared.link.Link.{Link}
use Rattle.venue_types.specs.declared.link.Node.{Node}
use Rattle.venue_types.specs.declared.settings.Profile.{Profile}
use Rattle.venue_types.specs.declared.settings.Settings.{Settings}
use Rattle.imdf_access.specs.Access.{is_allowed}
use Rattle.venue_nodes.specs.Nodes.{nodes, closables}
use Rattle.link_graph.specs.Facts.{facts_at}
use Rattle.link_graph.specs.Links.{links}
use Rattle.route_certificate.specs.declared.table.Table.{Table}
use Rattle.route_certificate.specs.declared.table.TableLink.{TableLink}

-- the links that the profile allows, in their order, nothing closed
abbrev pub allowed_links : Features → Settings → Profile → List Link
allowed_links features settings profile = filter (λ (link : Link). is_allowed profile (facts_at features settings link)) (links features settings)

-- the identifier of what a link goes by, a unit or a relationship
unfoldable pub way_id : Features → ℕ → FeatureId
way_id features k = elim (slice_get (closables features) k) [ None ↦ record { 0 = 0 } | Some id ↦ id ]

-- a link as the row of a table
abbrev pub row_of : Features → Link → TableLink
row_of features link = record { from = link.from; to = link.to; cost = link.cost; via = way_id features link.via }

-- the table: the identifiers of all nodes, and a row for each link that the profile allows
abbrev pub table_of : Features → Settings → Profile → Table
table_of features settings profile = record {
  nodes = map (λ (node : Node). node.id) (nodes features settings);
  links = map (row_of features) (allowed_links features settings profile);
}
