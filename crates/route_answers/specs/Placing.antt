-- How places are counted without a table: the code's own machinery, which no public contract cites.
use Rattle.std.specs.Prelude.{◌≡◌, ℕ, ◌+◌, ◌<◌, ◌≤◌, ◌==◌, ◌&&◌, List, [], ◌∷◌, take, filter, length, Bool, Option, Some, None, slice_get, slice_index_or, if◌then◌else◌}
use Rattle.std.specs.BTreeMap.{BTreeMap, get}
use Rattle.std.specs.List.{flat_map}
use Rattle.std.specs.List.Sorted.{IsNonDecreasingBy}
use Rattle.std.specs.declared.cmp.Ordering.{Ordering}
use Rattle.std.specs.Ordering.{nat_cmp, ordering_then}
use Rattle.venue_types.specs.declared.link.Link.{Link}
use Rattle.venue_types.specs.declared.settings.Profile.{Profile}
use Rattle.link_graph.specs.declared.areas.Area.{Area}
use Rattle.link_graph.specs.declared.graph.Graph.{Graph}
use Rattle.link_graph.specs.Areas.{area_links, areas}
use Rattle.link_graph.specs.Graphs.{network}
use Rattle.link_graph.specs.Networks.{Network}
use Rattle.route_answers.specs.declared.firsts.RowKey.{RowKey}
use Rattle.route_answers.specs.declared.starts.AreaStart.{AreaStart}
use Rattle.route_answers.specs.declared.starts.Starts.{Starts}
use Rattle.route_answers.specs.Passing.{link_row, passes_link, rows_of}
use Rattle.route_answers.specs.Places.{IsFirstPlace}

-- the row of the link stands first at this place, among the rows of those of these links that the profile allows
abbrev pub StandsFirst : Network → Profile → List Link → Link → ℕ → Type 0
StandsFirst network profile links link k = IsFirstPlace (rows_of network profile links) (link_row network link) k

-- ---- links across units

-- how many rows stand before those of the unit
abbrev pub rows_before : Graph → Profile → ℕ → ℕ
rows_before graph profile w = length (rows_of (network graph) profile (flat_map (area_links graph) (take w (areas graph))))

-- the rows of the unit begin there
pub record IsStart (graph : Graph) (profile : Profile) (w : ℕ) (start : AreaStart) : Type 0 where
  pub area : start.area ≡ w
  pub via : (area : Area × List ℕ × List (List Bool)) → slice_get (areas graph) w ≡ Some area → start.via ≡ area.0.via
  pub first : start.first ≡ rows_before graph profile w

-- for each unit where its rows begin, and where those of relationships do
pub record AreStarts (graph : Graph) (profile : Profile) (starts : Starts) : Type 0 where
  pub count : length starts.units.items ≡ length (areas graph)
  pub units : (w : ℕ) (start : AreaStart) → slice_get starts.units.items w ≡ Some start → IsStart graph profile w start
  pub rise : IsNonDecreasingBy (λ (start : AreaStart). start.via) starts.units.items
  pub passages : starts.passages ≡ length (rows_of (network graph) profile (flat_map (area_links graph) (areas graph)))

-- the numbers of the first units, so many, are less than this one, and no others
pub record IsFront (starts : List AreaStart) (via : ℕ) (count : ℕ) : Type 0 where
  pub less : (k : ℕ) (d : AreaStart) → k < count → (slice_index_or starts k d).via < via
  pub rest : (k : ℕ) (d : AreaStart) → count ≤ k → k < length starts → via ≤ (slice_index_or starts k d).via

-- ---- links by relationships

abbrev pub key_cmp : RowKey → RowKey → Ordering
key_cmp a b = ordering_then (nat_cmp a.from b.from) (ordering_then (nat_cmp a.to b.to) (ordering_then (nat_cmp a.via b.via) (nat_cmp a.cost b.cost)))

abbrev pub same_key : RowKey → RowKey → Bool
same_key a b = a.from == b.from && (a.to == b.to && (a.via == b.via && a.cost == b.cost))

-- what the row of a link is told by
abbrev pub key_of : Link → RowKey
key_of link = record { from = link.from; to = link.to; via = link.via; cost = link.cost }

-- the place of the first of these links with the key, counted on from n
abbrev pub first_of : RowKey → ℕ → List Link → Option ℕ
first_of key n [] = None
first_of key n (link ∷ links) = if same_key key (key_of link) then Some n else first_of key (n + 1) links

-- what is known of a key where one more place is noted for another or the same
abbrev pub noted : Option ℕ → Bool → ℕ → Option ℕ
noted (Some known) same place = Some known
noted None same place = if same then Some place else None

-- of those of these links that the profile allows, the first places of all keys are known
abbrev pub KnowsFirsts : Network → Profile → List Link → BTreeMap RowKey ℕ → Type 0
KnowsFirsts network profile links firsts = (key : RowKey) → get key_cmp firsts key ≡ first_of key 0 (filter (passes_link network profile) links)
