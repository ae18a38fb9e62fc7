-- The ends of a graph's links are nodes, their ways can be closed, and their costs are bounded.
use Rattle.std.proofs.Common.{◌≡◌, ℕ, ◌<◌, ◌≤◌, List, length, Some, subst, inl, inr, arith}
use Rattle.std.specs.Prelude.{Contains, slice_get}
use Rattle.std.proofs.lemmas.List.Elements.{All-contains}
use Rattle.venue_types.specs.declared.link.Link.{Link}
use Rattle.venue_nodes.specs.Rows.{row_list}
use Rattle.venue_nodes.specs.Views.{node_list, closable_list}
use Rattle.venue_nodes.proofs.Items.{member_at}
use Rattle.link_graph.specs.declared.parts.Core.{Core}
use Rattle.link_graph.specs.declared.parts.Crossing.{Crossing}
use Rattle.link_graph.specs.Cores.{IsSoundCore, IsCrossing, IsPassage, IsRow, links_in, spot_in}
use Rattle.link_graph.proofs.AskingLinks.{IsByRow, link_sort}
use Rattle.link_graph.proofs.Lengths.{between_bound}
use Rattle.link_graph.proofs.Ranges.{IsInRange}
use Rattle.link_graph.proofs.TableRows.{joined_in_apart}

-- ---- of what is kept

pub row_at : (core : Core) (k : ℕ) (row : List ℕ) → IsSoundCore core → slice_get (row_list core.rows) k ≡ Some row → IsRow core row
row_at core k row sound there = All-contains (IsRow core) (row_list core.rows) row sound.rows (member_at (row_list core.rows) k row there)

pub member_node : (core : Core) (row : List ℕ) (n : ℕ) → IsRow core row → Contains row n → n < length (node_list core.nodes)
member_node core row n is there = All-contains (λ (m : ℕ). m < length (node_list core.nodes)) row n is.within there

pub crossing_there : (core : Core) (k : ℕ) (crossing : Crossing) → IsSoundCore core → slice_get core.crossings.items k ≡ Some crossing → IsCrossing core crossing
crossing_there core k crossing sound there = All-contains (IsCrossing core) core.crossings.items crossing sound.crossings (member_at core.crossings.items k crossing there)

pub passage_there : (core : Core) (link : Link) → IsSoundCore core → Contains core.passages.items link → IsPassage core link
passage_there core link sound there = All-contains (IsPassage core) core.passages.items link sound.passages there

-- ---- ranges

below_units : (via first units : ℕ) → via < first → first ≤ units → via < units
below_units via first units h k = omega (arith, h, k)

across_range : (core : Core) (link : Link) → IsSoundCore core → IsByRow core core.crossings.items (row_list core.rows) link → IsInRange (length (node_list core.nodes)) (length (closable_list core.nodes)) link
across_range core link sound h =
    let row = row_at core h.k h.row sound h.there in
    let unit = crossing_there core h.k h.crossing sound h.unit in
    let long = between_bound (spot_in core link.from) (spot_in core link.to) core.kx core.ky in
    record {
      from = member_node core h.row link.from row h.goes.start;
      to = member_node core h.row link.to row h.goes.finish;
      via = subst (λ (via : ℕ). via < length (closable_list core.nodes)) h.goes.via unit.within;
      cost = let same = h.goes.cost in omega (arith, long, same);
      apart = joined_in_apart h.crossing h.row link.from link.to (sound.tables h.k h.crossing h.row h.unit h.there) h.goes.joined;
    }

passage_range : (core : Core) (link : Link) → IsSoundCore core → Contains core.passages.items link → IsInRange (length (node_list core.nodes)) (length (closable_list core.nodes)) link
passage_range core link sound h =
    let is = passage_there core link sound h in
    record {
      from = is.from;
      to = is.to;
      via = below_units link.via core.first_unit (length (closable_list core.nodes)) is.via sound.units_last;
      cost = is.cost;
      apart = is.apart;
    }

pub link_range : (core : Core) (link : Link) → IsSoundCore core → Contains (links_in core) link → IsInRange (length (node_list core.nodes)) (length (closable_list core.nodes)) link
link_range core link sound h = elim (link_sort core link h) [
  | inl across ↦ across_range core link sound across
  | inr passage ↦ passage_range core link sound passage
]
