-- The rows of members of a folder's walkable units.
use Rattle.std.specs.Prelude.{◌≡◌, ℕ, List, map, filter, length}
use Rattle.venue_types.specs.declared.features.Features.{Features}
use Rattle.venue_types.specs.declared.features.UnitRow.{UnitRow}
use Rattle.venue_types.specs.declared.settings.Inside.{Inside}
use Rattle.venue_types.specs.declared.settings.Settings.{Settings}
use Rattle.imdf_access.specs.Categories.{is_walkable}
use Rattle.venue_nodes.specs.declared.members.Rows.{Rows}
use Rattle.venue_nodes.specs.Nodes.{nodes, walkable_units}
use Rattle.venue_nodes.specs.Members.{members, places_where}
use Rattle.venue_nodes.specs.Naming.{named_by, row_in, can_walk, unit_id}

-- the rows, each a list of numbers of nodes
unfoldable pub row_list : Rows → List (List ℕ)
row_list rows = rows.members

-- for each row its unit's index
unfoldable pub unit_indexes : Rows → List ℕ
unit_indexes rows = rows.units.items

-- how many nodes there are of which some stand in the rows
unfoldable pub node_total : Rows → ℕ
node_total rows = length rows.seats

-- one row of members for each walkable unit in file order, and that unit's index; of all nodes
pub record AreRowsOf (features : Features) (settings : Settings) (rows : Rows) : Type 0 where
  pub members_are : row_list rows ≡ map (members features settings) (walkable_units features)
  pub units_are : unit_indexes rows ≡ places_where (λ (row : UnitRow). is_walkable row.category) 0 features.units
  pub nodes_are : node_total rows ≡ length (nodes features settings)

-- the same by what each node names, of openings that touch units of these indexes: what the code goes through
pub record AreNamedRows (features : Features) (inside : Inside) (touched : List (List ℕ)) (rows : Rows) : Type 0 where
  pub named_are : row_list rows ≡ map (row_in (named_by features inside touched (map unit_id (filter can_walk features.units)))) (map unit_id (filter can_walk features.units))
  pub indexes_are : unit_indexes rows ≡ places_where can_walk 0 features.units
  pub total_is : node_total rows ≡ length (named_by features inside touched (map unit_id (filter can_walk features.units)))
