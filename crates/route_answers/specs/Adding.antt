-- What is added to the rows of a table: the code's own machinery, which no public contract cites.
use Rattle.std.specs.Prelude.{◌≡◌, ℕ, ◌<◌, ◌≤◌, Bool, ◌&&◌, All, List, ◌++◌, map, filter, length}
use Rattle.std.specs.List.{AllByRecursion}
use Rattle.std.specs.List.Sorted.{IsStrictlyIncreasing}
use Rattle.link_graph.specs.declared.areas.Area.{Area}
use Rattle.link_graph.specs.declared.graph.Graph.{Graph}
use Rattle.venue_types.specs.declared.settings.Profile.{Profile}
use Rattle.link_graph.specs.Areas.{inside_area, joined_across}
use Rattle.link_graph.specs.Graphs.{network}
use Rattle.route_certificate.specs.declared.table.TableLink.{TableLink}
use Rattle.route_certificate.specs.Forms.{FitsLink}
use Rattle.route_answers.specs.declared.room.Room.{Room}
use Rattle.route_answers.specs.Passing.{AreMarked, link_row, other_than, passes_node}

-- behind the rows before stand these, which fit a table of so many nodes
pub record Adds (count : ℕ) (old new added : List TableLink) : Type 0 where
  pub items : new ≡ old ++ added
  pub fits : AllByRecursion (FitsLink count) added

-- the row of the link across a unit from node to node
abbrev pub pair_row : Graph → Area → ℕ → ℕ → TableLink
pair_row graph area a b = link_row (network graph) (inside_area graph area a b)

-- the members that pass and with which one of these is joined
abbrev pub joined_passing : Graph → Profile → List ℕ → List (List Bool) → ℕ → List ℕ
joined_passing graph profile members table a = filter (λ b. joined_across table members a b && passes_node (network graph) profile b) members

-- the rows of the links from one of these members to those
unfoldable pub rows_joined_to : Graph → Profile → Area → List ℕ → List (List Bool) → ℕ → List TableLink
rows_joined_to graph profile area members table a = map (pair_row graph area a) (joined_passing graph profile members table a)

-- the members of a room are few nodes that rise, with a place each in its table, and the places of those that pass are marked
pub record IsRoom (room : Room) : Type 0 where
  pub within : All (λ (m : ℕ). m < length (network room.graph.now).nodes) room.members.now
  pub rise : IsStrictlyIncreasing room.members.now
  pub fits : length room.members.now ≤ length room.sights.now
  pub short : length room.members.now ≤ 4096
  pub marked : AreMarked (passes_node (network room.graph.now) room.profile.now) room.members.now (length room.members.now) (length room.sights.now) room.mask.now

-- the rows of the links from one of these members to all others
unfoldable pub rows_from : Graph → Area → List ℕ → ℕ → List TableLink
rows_from graph area members a = map (pair_row graph area a) (filter (other_than a) members)
