-- How many rows there are of some links.
use Rattle.std.proofs.Common.{Bool, ◌≡◌, ℕ, ◌+◌, ◌*◌, ◌-◌, ◌<◌, ◌≤◌, true, List, ◌++◌, length, get_or, take, filter, flat_map, Some, sym, ap, ◌∙◌, subst, arith, length-append}
use Rattle.std.specs.Prelude.{Contains, slice_get}
use Rattle.std.specs.List.Sorted.{IsStrictlyIncreasing}
use Rattle.std.proofs.lemmas.List.{length-map}
use Rattle.std.proofs.lemmas.List.Elements.{Contains-append_right, Contains-get_or}
use Rattle.std.proofs.lemmas.List.Folds.{length-flat_map-take}
use Rattle.std.proofs.lemmas.List.Kept.{IsStrictlyIncreasing-filter}
use Rattle.std.proofs.lemmas.List.Sums.{length-filter, count_by-le-length}
use Rattle.std.proofs.lemmas.Option.{same_Some, slice_get_within, get_or_from_slice_get}
use Rattle.venue_types.specs.declared.link.Link.{Link}
use Rattle.venue_types.specs.declared.settings.Profile.{Profile}
use Rattle.link_graph.specs.declared.areas.Area.{Area}
use Rattle.link_graph.specs.declared.graph.Graph.{Graph}
use Rattle.link_graph.specs.Areas.{area_links, areas, passages, IsWholeAcross, joined_across}
use Rattle.link_graph.specs.Graphs.{network}
use Rattle.link_graph.specs.Networks.{Network}
use Rattle.route_certificate.specs.declared.table.TableLink.{TableLink}
use Rattle.route_answers.specs.Adding.{joined_passing, pair_row, rows_from}
use Rattle.route_answers.specs.Passing.{passes_by, passes_link, passes_node, link_row, rows_of}
use Rattle.route_answers.proofs.Choosing.{rows_joined, crossed_rows}
use Rattle.route_answers.proofs.Gathering.{joined_more}
use Rattle.route_answers.proofs.JoinedPlaces.{pair_lengths}
use Rattle.route_answers.proofs.JoinedRows.{joined_rows}
use Rattle.route_answers.proofs.Judging.{PartsLaw}
use Rattle.route_answers.proofs.Pairs.{pair_count}

-- ---- links at the end of a list

pub behind : (links front rest given : List Link) (k : ℕ) (d : Link) → links ≡ front ++ rest → given ≡ rest → k < length given → Contains links (get_or given k d)
behind links front rest given k d all same within =
    subst (λ (ls : List Link). Contains ls (get_or given k d)) (sym all)
    (Contains-append_right front rest (get_or given k d) (subst (λ (ls : List Link). Contains ls (get_or given k d)) same (Contains-get_or given k d within)))

-- ---- of links

pub rows_length : (given : Network) (profile : Profile) (links : List Link) → length (rows_of given profile links) ≡ length (filter (passes_link given profile) links)
unfolding rows_of
rows_length given profile links = length-map (filter (passes_link given profile) links) (link_row given)

pub rows_few : (given : Network) (profile : Profile) (links : List Link) → length (rows_of given profile links) ≤ length links
rows_few given profile links =
    let mapped = rows_length given profile links in
    let kept = length-filter (passes_link given profile) links in
    let bound = count_by-le-length (passes_link given profile) links in
    omega (arith, mapped, kept, bound)

-- ---- of areas

-- a row for each pair of members that pass
pub crossed_count : PartsLaw → (graph : Graph) (profile : Profile) (area : Area) (members : List ℕ) (table : List (List Bool)) → IsWholeAcross table members → (network graph).barred area.via ≡ area.restricted → passes_by profile area.kind area.restricted ≡ true → IsStrictlyIncreasing members
    → length (rows_of (network graph) profile (area_links graph (area, members, table))) ≡ length (filter (passes_node (network graph) profile) members) * (length (filter (passes_node (network graph) profile) members) - 1)
unfolding rows_from
crossed_count law graph profile area members table whole barred crossed rise =
    let passed = filter (passes_node (network graph) profile) members in
    ap (λ (rows : List TableLink). length rows) (crossed_rows law graph profile area members table whole barred crossed)
    ∙ pair_count (pair_row graph area) passed (IsStrictlyIncreasing-filter (passes_node (network graph) profile) members rise)

-- one for each pair of members that are joined and pass
pub joined_number : PartsLaw → (graph : Graph) (profile : Profile) (area : Area) (members : List ℕ) (table : List (List Bool)) → (network graph).barred area.via ≡ area.restricted → passes_by profile area.kind area.restricted ≡ true
    → length (rows_of (network graph) profile (area_links graph (area, members, table))) ≡ length (flat_map (joined_passing graph profile members table) (filter (passes_node (network graph) profile) members))
joined_number law graph profile area members table barred crossed =
    ap (λ (rows : List TableLink). length rows) (joined_rows law graph profile area members (joined_across table members) barred crossed)
    ∙ pair_lengths (pair_row graph area) (joined_passing graph profile members table) (filter (passes_node (network graph) profile) members)

pub areas_counted : (graph : Graph) (profile : Profile) (w : ℕ) (area : Area × List ℕ × List (List Bool)) (n m sum : ℕ) → slice_get (areas graph) w ≡ Some area → n ≡ length (rows_of (network graph) profile (flat_map (area_links graph) (take w (areas graph))))
    → m ≡ length (rows_of (network graph) profile (area_links graph area)) → sum ≡ n + m → sum ≡ length (rows_of (network graph) profile (flat_map (area_links graph) (take (w + 1) (areas graph))))
areas_counted graph profile w area n m sum there before one added =
    let given = network graph in
    let f : Area × List ℕ × List (List Bool) → List Link = area_links graph in
    let front : List Link = flat_map f (take w (areas graph)) in
    let joined : flat_map f (take (w + 1) (areas graph)) ≡ front ++ f area =
    joined_more f (areas graph) w area (slice_get_within (areas graph) w area there)
    ∙ ap (λ (x : Area × List ℕ × List (List Bool)). front ++ f x) (get_or_from_slice_get (areas graph) w area area there) in
    let all : length (rows_of given profile (flat_map f (take (w + 1) (areas graph)))) ≡ length (rows_of given profile front ++ rows_of given profile (f area)) =
    ap (λ (links : List Link). length (rows_of given profile links)) joined ∙ ap (λ (rows : List TableLink). length rows) (rows_joined given profile front (f area)) in
    let both = length-append (rows_of given profile front) (rows_of given profile (f area)) in
    omega (arith, all, both, before, one, added)

-- the links of an area and of those before it are no more than all
pub areas_few : (graph : Graph) (profile : Profile) (w : ℕ) (area : Area × List ℕ × List (List Bool)) (n m : ℕ) → slice_get (areas graph) w ≡ Some area → n ≡ length (rows_of (network graph) profile (flat_map (area_links graph) (take w (areas graph))))
    → m ≡ length (rows_of (network graph) profile (area_links graph area)) → (network graph).links ≡ flat_map (area_links graph) (areas graph) ++ passages graph → n + m ≤ length (network graph).links
areas_few graph profile w area n m there before one law =
    let given = network graph in
    let f : Area × List ℕ × List (List Bool) → List Link = area_links graph in
    let front : List Link = flat_map f (take w (areas graph)) in
    let some = rows_few given profile front in
    let more = rows_few given profile (f area) in
    let piece : length (f (get_or (areas graph) w area)) ≡ length (f area) = ap (λ (x : Area × List ℕ × List (List Bool)). length (f x)) (get_or_from_slice_get (areas graph) w area area there) in
    let within = length-flat_map-take f (areas graph) w area (slice_get_within (areas graph) w area there) in
    let whole : length given.links ≡ length (flat_map f (areas graph) ++ passages graph) = ap (λ (links : List Link). length links) law in
    let both = length-append (flat_map f (areas graph)) (passages graph) in
    omega (arith, some, more, piece, within, whole, both, before, one)

-- what holds of the rows of an area, told of the area that stands in the list
pub told : (graph : Graph) (profile : Profile) (w : ℕ) (area : Area) (members : List ℕ) (table : List (List Bool)) (listed : Area × List ℕ × List (List Bool)) (P : List TableLink → Type 0)
    → slice_get (areas graph) w ≡ Some (area, members, table) → slice_get (areas graph) w ≡ Some listed
    → P (rows_of (network graph) profile (area_links graph (area, members, table))) → P (rows_of (network graph) profile (area_links graph listed))
told graph profile w area members table listed P here there holds =
    subst (λ (given : Area × List ℕ × List (List Bool)). P (rows_of (network graph) profile (area_links graph given))) (same_Some (area, members, table) listed (sym here ∙ there)) holds

-- ---- of all

pub all_counted : (graph : Graph) (profile : Profile) (n m sum : ℕ) → n ≡ length (rows_of (network graph) profile (flat_map (area_links graph) (areas graph))) → m ≡ length (rows_of (network graph) profile (passages graph))
    → (network graph).links ≡ flat_map (area_links graph) (areas graph) ++ passages graph → sum ≡ n + m → sum ≡ length (rows_of (network graph) profile (network graph).links)
all_counted graph profile n m sum across between law added =
    let given = network graph in
    let front = flat_map (area_links graph) (areas graph) in
    let all : length (rows_of given profile given.links) ≡ length (rows_of given profile front ++ rows_of given profile (passages graph)) =
    ap (λ (links : List Link). length (rows_of given profile links)) law ∙ ap (λ (rows : List TableLink). length rows) (rows_joined given profile front (passages graph)) in
    let both = length-append (rows_of given profile front) (rows_of given profile (passages graph)) in
    omega (arith, all, both, across, between, added)

pub all_few : (graph : Graph) (profile : Profile) (n m : ℕ) → n ≡ length (rows_of (network graph) profile (flat_map (area_links graph) (areas graph))) → m ≡ length (rows_of (network graph) profile (passages graph))
    → (network graph).links ≡ flat_map (area_links graph) (areas graph) ++ passages graph → n + m ≤ length (network graph).links
all_few graph profile n m across between law =
    let given = network graph in
    let front = flat_map (area_links graph) (areas graph) in
    let some = rows_few given profile front in
    let more = rows_few given profile (passages graph) in
    let whole : length given.links ≡ length (front ++ passages graph) = ap (λ (links : List Link). length links) law in
    let both = length-append front (passages graph) in
    omega (arith, some, more, whole, both, across, between)

-- of the links by relationships, as they are counted
pub between_count : (graph : Graph) (profile : Profile) (links : List Link) (m : ℕ) → links ≡ passages graph → m ≡ length (filter (passes_link (network graph) profile) links) → m ≡ length (rows_of (network graph) profile (passages graph))
between_count graph profile links m same is =
    is ∙ ap (λ (ls : List Link). length (filter (passes_link (network graph) profile) ls)) same ∙ sym (rows_length (network graph) profile (passages graph))
