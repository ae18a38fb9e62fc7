-- What a link asks of who uses it, and whether it is open.
use Rattle.std.specs.Prelude.{◌≡◌, ℕ, ◌-◌, List, Option, Some, None, Contains, slice_get, nat_lt, if◌then◌else◌}
use Rattle.venue_types.specs.declared.feature_id.FeatureId.{FeatureId}
use Rattle.venue_types.specs.declared.features.Features.{Features}
use Rattle.venue_types.specs.declared.features.UnitRow.{UnitRow}
use Rattle.venue_types.specs.declared.link.Link.{Link}
use Rattle.venue_types.specs.declared.link.LinkFacts.{LinkFacts}
use Rattle.venue_types.specs.declared.link.Node.{Node}
use Rattle.venue_types.specs.declared.settings.Settings.{Settings}
use Rattle.imdf_access.specs.Access.{End, facts_of}
use Rattle.imdf_access.specs.Access as access
use Rattle.venue_nodes.specs.Nodes.{NodeRow, amenity, anchor, opening, unit, corner, node_rows, nodes, closables}
use Rattle.link_graph.specs.Links.{first_unit}

-- what stands at a node, as far as it has a say on access: at a corner its unit
abbrev pub end_of : NodeRow → End
end_of (amenity row) = access.elsewhere
end_of (anchor row) = access.elsewhere
end_of (opening row) = access.opening row
end_of (unit row) = access.unit row
end_of (corner row n p) = access.unit row

abbrev pub end_at : Features → Settings → ℕ → End
end_at features settings n = elim (slice_get (node_rows features settings) n) [ None ↦ access.elsewhere | Some row ↦ end_of row ]

-- the unit of this closable number, if it is that of a unit
abbrev pub unit_by : Features → ℕ → Option UnitRow
unit_by features via = (if nat_lt via (first_unit features) then None else slice_get features.units (via - first_unit features))

-- what a link asks of who uses it
unfoldable pub facts_at : Features → Settings → Link → LinkFacts
facts_at features settings link = facts_of link.kind (unit_by features link.via) (end_at features settings link.from) (end_at features settings link.to)

-- the feature of a node is closed, of these nodes
abbrev pub IsNodeClosed : List Node → List FeatureId → ℕ → Type 0
IsNodeClosed nodes closed n = (node : Node) × (slice_get nodes n ≡ Some node) × Contains closed node.id

-- the unit or the relationship that a link goes by is closed, of what can be
abbrev pub IsWayClosed : List FeatureId → List FeatureId → ℕ → Type 0
IsWayClosed closables closed via = (id : FeatureId) × (slice_get closables via ≡ Some id) × Contains closed id

-- of these nodes and of what can be closed: neither the way of a link nor the feature at either end is closed
pub record IsOpenAmong (nodes : List Node) (closables closed : List FeatureId) (link : Link) : Type 0 where
  pub way : ¬ IsWayClosed closables closed link.via
  pub start : ¬ IsNodeClosed nodes closed link.from
  pub finish : ¬ IsNodeClosed nodes closed link.to

-- neither the way of a link nor the feature at either end is closed
abbrev pub IsOpen : Features → Settings → List FeatureId → Link → Type 0
IsOpen features settings closed link = IsOpenAmong (nodes features settings) (closables features) closed link
