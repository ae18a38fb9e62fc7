-- A link inside a unit, by what it is.
use Rattle.std.specs.Prelude.{◌≡◌, Contains, IsTrue}
use Rattle.venue_types.specs.declared.features.Features.{Features}
use Rattle.venue_types.specs.declared.features.UnitRow.{UnitRow}
use Rattle.venue_types.specs.declared.link.Link.{Link}
use Rattle.venue_types.specs.declared.settings.Settings.{Settings}
use Rattle.imdf_access.specs.Categories.{unit_kind_of}
use Rattle.venue_nodes.specs.Members.{members}
use Rattle.link_graph.specs.Links.{are_joined, has_links, way}

-- one walks in the unit, and the link leads straight from one of its members to another, as far as the way is and of the unit's kind
pub record GoesInside (features : Features) (settings : Settings) (u : UnitRow) (link : Link) : Type 0 where
  pub walked : IsTrue (has_links u)
  pub start : Contains (members features settings u) link.from
  pub finish : Contains (members features settings u) link.to
  pub joined : IsTrue (are_joined features settings u link.from link.to)
  pub cost : link.cost ≡ way features settings link.from link.to
  pub kind : link.kind ≡ unit_kind_of u.category
