-- The links of a graph are those across its areas, and those by relationships.
use Rattle.std.proofs.Common.{◌≡◌, ◌==◌, ℕ, zero, suc, ◌<◌, ◌≤◌, Bool, true, false, not, List, [], ◌∷◌, ◌++◌, length, map, filter, flat_map, cond, Some, None, refl, sym, ap, ◌∙◌, get_or, inl, inr, arith}
use Rattle.std.specs.Prelude.{slice_get, Contains}
use Rattle.std.proofs.lemmas.Bool.{cases_eq, eq-eqb, ne_eqb}
use Rattle.std.proofs.lemmas.Option.{same_Some, slice_get_read, slice_get_within}
use Rattle.venue_types.specs.declared.link.Link.{Link}
use Rattle.venue_nodes.specs.Rows.{row_list}
use Rattle.link_graph.specs.declared.areas.Area.{Area}
use Rattle.link_graph.specs.declared.graph.Graph.{Graph}
use Rattle.link_graph.specs.declared.parts.Core.{Core}
use Rattle.link_graph.specs.declared.parts.Crossing.{Crossing}
use Rattle.link_graph.specs.Areas.{IsArea, IsWholeAcross, inside_area, joined_across, unit_of, walked_of, area_of, areas_in, areas, area_links, passages, straight}
use Rattle.link_graph.specs.Cores.{IsRow, IsTableOf, links_across, links_across_from, links_across_all, links_in, network_in, joined_in, place_in}
use Rattle.link_graph.specs.Graphs.{network}
use Rattle.link_graph.proofs.AskingRanges.{row_at, crossing_there}
use Rattle.link_graph.proofs.Joined.{filter_same, flat_map_within}
use Rattle.link_graph.proofs.TableRows.{at_place}
use Rattle.unit_sight.specs.Tables.{IsWhole}

-- ---- the links across one area

across_when : (graph : Graph) (crossing : Crossing) (row : List ℕ) (walked : Bool)
    → cond walked (flat_map (links_across_from graph.core crossing row) row) [] ≡ area_links graph (unit_of graph.core crossing, cond walked row [], crossing.sights)
unfolding straight joined_in joined_across
across_when graph crossing row true = refl
across_when graph crossing row false = refl

across_one : (graph : Graph) (crossing : Crossing) (row : List ℕ) → links_across graph.core crossing row ≡ area_links graph (area_of graph.core crossing row)
across_one graph crossing row = across_when graph crossing row crossing.walked

across_all : (graph : Graph) (crossings : List Crossing) (rows : List (List ℕ)) → links_across_all graph.core crossings rows ≡ flat_map (area_links graph) (areas_in graph.core crossings rows)
across_all graph [] rows = refl
across_all graph (c ∷ cs) [] = refl
across_all graph (c ∷ cs) (r ∷ rs) =
    ap (λ (links : List Link). links ++ links_across_all graph.core cs rs) (across_one graph c r)
    ∙ ap (λ (links : List Link). area_links graph (area_of graph.core c r) ++ links) (across_all graph cs rs)

pub by_areas : (graph : Graph) → (network graph).links ≡ flat_map (area_links graph) (areas graph) ++ passages graph
unfolding network network_in links_in areas passages
by_areas graph = ap (λ (links : List Link). links ++ graph.core.passages.items) (across_all graph graph.core.crossings.items (row_list graph.core.rows))

-- where any two members are joined a link leads from each to all others
pub whole_links : (graph : Graph) (area : Area) (members : List ℕ) (table : List (List Bool)) → IsWholeAcross table members
    → area_links graph (area, members, table) ≡ flat_map (λ (a : ℕ). map (inside_area graph area a) (filter (λ b. not (a == b)) members)) members
whole_links graph area members table whole = flat_map_within (λ (a : ℕ). map (inside_area graph area a) (filter (joined_across table members a) members)) (λ (a : ℕ). map (inside_area graph area a) (filter (λ b. not (a == b)) members)) members
    (λ a h. ap (map (inside_area graph area a)) (filter_same (joined_across table members a) (λ b. not (a == b)) members (λ b k. whole.joined a b h k)))

-- ---- the areas by their numbers

pub area_at : (core : Core) (crossings : List Crossing) (rows : List (List ℕ)) (w : ℕ) (crossing : Crossing) (row : List ℕ) → slice_get crossings w ≡ Some crossing → slice_get rows w ≡ Some row
    → slice_get (areas_in core crossings rows) w ≡ Some (area_of core crossing row)
area_at core [] rows w crossing row unit there = absurd (let no : None ≡ Some crossing = unit in cc)
area_at core (c ∷ cs) [] w crossing row unit there = absurd (let no : None ≡ Some row = there in cc)
area_at core (c ∷ cs) (r ∷ rs) zero crossing row unit there =
    let one : c ≡ crossing = same_Some c crossing unit in
    let two : r ≡ row = same_Some r row there in
    ap (λ (x : Crossing). Some (area_of core x r)) one ∙ ap (λ (x : List ℕ). Some (area_of core crossing x)) two
area_at core (c ∷ cs) (r ∷ rs) (suc w) crossing row unit there = area_at core cs rs w crossing row unit there

pub areas_count : (core : Core) (crossings : List Crossing) (rows : List (List ℕ)) → length crossings ≡ length rows → length (areas_in core crossings rows) ≡ length rows
areas_count core [] [] paired = refl
areas_count core [] (r ∷ rs) paired = paired
areas_count core (c ∷ cs) [] paired = absurd (omega (arith, paired))
areas_count core (c ∷ cs) (r ∷ rs) paired = let rest = areas_count core cs rs (omega (arith, paired)) in omega (arith, rest)

-- a unit by what is read
pub unit_read : (crossings : List Crossing) (w : ℕ) (crossing : Crossing) → w < length crossings → crossing ≡ get_or crossings w crossing → slice_get crossings w ≡ Some crossing
unit_read crossings w crossing within read = slice_get_read crossings (length crossings) w crossing refl within read

-- the same by what is read of the units
pub area_read : (core : Core) (crossings : List Crossing) (rows : List (List ℕ)) (w : ℕ) (crossing : Crossing) (row : List ℕ) (area : Area) (members : List ℕ) → w < length crossings → crossing ≡ get_or crossings w crossing
    → slice_get rows w ≡ Some row → area ≡ unit_of core crossing → members ≡ walked_of crossing row → slice_get (areas_in core crossings rows) w ≡ Some (area, members, crossing.sights)
area_read core crossings rows w crossing row area members within read there is walked =
    area_at core crossings rows w crossing row (unit_read crossings w crossing within read) there
    ∙ ap (λ (x : Area). Some (x, walked_of crossing row, crossing.sights)) (sym is)
    ∙ ap (λ (x : List ℕ). Some (area, x, crossing.sights)) (sym walked)

-- ---- what holds of an area

walked_row : (core : Core) (row : List ℕ) (walked : Bool) → IsRow core row → IsRow core (cond walked row [])
walked_row core row true is = is
walked_row core row false is = record {
  rise = λ k below. absurd (omega (arith, below));
  within = λ k d below. absurd (omega (arith, below));
  short = omega arith;
}

-- any two members are joined where any two places are
same_member : (members : List ℕ) (a b : ℕ) → Contains members a → Contains members b → place_in members a ≡ place_in members b → a ≡ b
same_member members a b h k e = same_Some a b (sym (at_place members a h) ∙ ap (slice_get members) e ∙ at_place members b k)

places_apart : (members : List ℕ) (a b : ℕ) → Contains members a → Contains members b → (place_in members a == place_in members b) ≡ (a == b)
places_apart members a b h k = elim (cases_eq a b) [
  | inl same ↦ eq-eqb (place_in members a) (place_in members b) (ap (place_in members) same) ∙ sym (eq-eqb a b same)
  | inr apart ↦ ne_eqb (place_in members a) (place_in members b) (λ e. apart (same_member members a b h k e)) ∙ sym (ne_eqb a b apart)
]

place_within : (members : List ℕ) (a : ℕ) → Contains members a → place_in members a < length members
place_within members a h = slice_get_within members (place_in members a) a (at_place members a h)

any_joined : (table : List (List Bool)) (members : List ℕ) → length members ≤ length table → IsWhole table → IsWholeAcross table members
unfolding joined_across
any_joined table members long whole = record {
  joined = λ a b h k.
      let here = place_within members a h in
      let there = place_within members b k in
      whole.whole (place_in members a) (place_in members b) (omega (arith, here, long)) (omega (arith, there, long)) ∙ ap not (places_apart members a b h k);
}

walked_few : (row : List ℕ) (walked : Bool) → length (cond walked row []) ≤ length row
walked_few row true = omega arith
walked_few row false = omega arith

pub is_area : (graph : Graph) (crossing : Crossing) (row : List ℕ) (w : ℕ) → slice_get graph.core.crossings.items w ≡ Some crossing → slice_get (row_list graph.core.rows) w ≡ Some row
    → IsArea (network graph) (unit_of graph.core crossing) (walked_of crossing row) crossing.sights
unfolding network network_in
is_area graph crossing row w unit there =
    let core = graph.core in
    let kept = walked_row core row crossing.walked (row_at core w row graph.sound there) in
    let table : IsTableOf crossing row = graph.sound.tables w crossing row unit there in
    let few = walked_few row crossing.walked in
    let same = table.long in
    let long : length (walked_of crossing row) ≤ length crossing.sights = omega (arith, few, same) in
    record {
      via = (crossing_there core w crossing graph.sound unit).within;
      barred = refl;
      rise = kept.rise;
      within = kept.within;
      short = kept.short;
      long = long;
      apart = table.apart;
      whole = any_joined crossing.sights (walked_of crossing row) long;
    }
