-- Where the row of a link stands among all.
use Rattle.std.proofs.Common.{Bool, ◌≡◌, ◌≢◌, ℕ, ◌+◌, ◌<◌, List, [], ◌∷◌, ◌++◌, length, get_or, map, take, filter, flat_map, Some, refl, sym, ap, ◌∙◌, subst, arith, inl, inr}
use Rattle.std.specs.Prelude.{All, AllPairs, Contains, Option, option_map, slice_get}
use Rattle.std.specs.BTreeMap.{BTreeMap, get}
use Rattle.std.specs.List.{AllByRecursion}
use Rattle.std.specs.List.Sorted.{IsStrictlyIncreasing}
use Rattle.std.proofs.lemmas.List.{take-map}
use Rattle.std.proofs.lemmas.List.Elements.{Contains-append_cases, recursion_from_All}
use Rattle.std.proofs.lemmas.Option.{same_Some, slice_get-get_or, slice_get-map, slice_get_within, get_or_from_slice_get}
use Rattle.venue_types.specs.declared.link.Link.{Link}
use Rattle.venue_types.specs.declared.settings.Profile.{Profile}
use Rattle.imdf_access.specs.Access.{IsAllowed}
use Rattle.link_graph.specs.declared.areas.Area.{Area}
use Rattle.link_graph.specs.declared.graph.Graph.{Graph}
use Rattle.link_graph.specs.Areas.{area_links, areas, inside_area, passages, joined_across}
use Rattle.link_graph.specs.Graphs.{network}
use Rattle.link_graph.specs.Networks.{Network, link_facts}
use Rattle.link_graph.proofs.Items.{from_flat_map}
use Rattle.route_certificate.specs.declared.table.TableLink.{TableLink}
use Rattle.route_answers.specs.declared.firsts.RowKey.{RowKey}
use Rattle.route_answers.specs.declared.starts.AreaStart.{AreaStart}
use Rattle.route_answers.specs.declared.starts.Starts.{Starts}
use Rattle.route_answers.specs.Passing.{id_at, link_row, passes_link, rows_of}
use Rattle.route_answers.specs.Places.{IsFirstPlace}
use Rattle.route_answers.specs.Placing.{AreStarts, IsStart, KnowsFirsts, StandsFirst, key_cmp, key_of, rows_before}
use Rattle.route_answers.proofs.Choosing.{rows_joined}
use Rattle.route_answers.proofs.Everywhere.{all_at_all, all_by, all_front, all_kept, all_mapped, all_pieces, all_unmapped, of_item}
use Rattle.route_answers.proofs.FirstRows.{Lacks, first_before, first_behind, first_piece, moved}
use Rattle.route_answers.proofs.Gathering.{all_joined, at_place}
use Rattle.route_answers.proofs.Keys.{id_same, known_place}
use Rattle.route_answers.proofs.Numbers.{behind, rows_few}
use Rattle.route_answers.proofs.Rising.{at_item, lesser_before, one_place, rises_from}
use Rattle.route_answers.proofs.UnitPlaces.{inside, passes}
use Rattle.route_answers.proofs.Units.{number}

-- ---- the unit of a link

pub via_inside : (graph : Graph) (area : Area × List ℕ × List (List Bool)) (link : Link) → Contains (area_links graph area) link → area.0.via ≡ link.via
via_inside graph area link there = ap (λ (l : Link). l.via) (inside graph area.0 area.1 area.2 link there).is

has_item : {X : Type 0} (xs : List X) (k : ℕ) (x : X) → slice_get xs k ≡ Some x → Contains xs x
has_item xs k x at = (k, slice_get_within xs k x at, get_or_from_slice_get xs k x x at)

number_at : (graph : Graph) (k : ℕ) (area : Area × List ℕ × List (List Bool)) → slice_get (areas graph) k ≡ Some area → slice_get (map number (areas graph)) k ≡ Some area.0.via
number_at graph k area at = slice_get-map number (areas graph) k ∙ ap (λ (found : Option (Area × List ℕ × List (List Bool))). option_map number found) at

-- units with one number are one
one_unit : (graph : Graph) (v w : ℕ) (first second : Area × List ℕ × List (List Bool)) → IsStrictlyIncreasing (map number (areas graph)) → slice_get (areas graph) v ≡ Some first → slice_get (areas graph) w ≡ Some second → first.0.via ≡ second.0.via → first ≡ second
one_unit graph v w first second rise here there same =
    let up = rises_from (map number (areas graph)) rise in
    let one = number_at graph v first here in
    let two = number_at graph w second there ∙ ap (λ (n : ℕ). Some n) (sym same) in
    let most = one_place (map number (areas graph)) v w first.0.via up one two in
    let least = one_place (map number (areas graph)) w v first.0.via up two one in
    let place : v ≡ w = omega (arith, most, least) in
    same_Some first second (sym here ∙ ap (λ (k : ℕ). slice_get (areas graph) k) place ∙ there)

abbrev pub ApartLaw : Graph → Type 0
ApartLaw graph = (link : Link) (area : Area × List ℕ × List (List Bool)) → Contains (passages graph) link → Contains (areas graph) area → link.via < area.0.via

-- a link with the number of a unit leads across it
pub in_unit : (graph : Graph) (w : ℕ) (area : Area × List ℕ × List (List Bool)) (link : Link) → (network graph).links ≡ flat_map (area_links graph) (areas graph) ++ passages graph → IsStrictlyIncreasing (map number (areas graph)) → ApartLaw graph
    → slice_get (areas graph) w ≡ Some area → area.0.via ≡ link.via → Contains (network graph).links link → Contains (area_links graph area) link
in_unit graph w area link law rise apart at via there =
    elim (Contains-append_cases (flat_map (area_links graph) (areas graph)) (passages graph) link (subst (λ (ls : List Link). Contains ls link) law there)) [
      | inl across ↦
          let found = from_flat_map (area_links graph) (areas graph) link across in
          let place = at_item (areas graph) found.0 found.1 in
          let same : found.0 ≡ area = one_unit graph place.0 w found.0 area rise place.1 at (via_inside graph found.0 link found.2 ∙ sym via) in
          subst (λ (a : Area × List ℕ × List (List Bool)). Contains (area_links graph a) link) same found.2
      | inr between ↦ absurd (let less = apart link area between (has_item (areas graph) w area at) in omega (arith, less, via))
    ]

-- one with the number of none goes by a relationship
pub in_none : (graph : Graph) (link : Link) → (network graph).links ≡ flat_map (area_links graph) (areas graph) ++ passages graph → AllByRecursion (λ (area : Area × List ℕ × List (List Bool)). area.0.via ≢ link.via) (areas graph) → Contains (network graph).links link
    → Contains (passages graph) link
in_none graph link law none there =
    elim (Contains-append_cases (flat_map (area_links graph) (areas graph)) (passages graph) link (subst (λ (ls : List Link). Contains ls link) law there)) [
      | inl across ↦
          let found = from_flat_map (area_links graph) (areas graph) link across in
          let place = at_item (areas graph) found.0 found.1 in
          absurd (of_item (λ (area : Area × List ℕ × List (List Bool)). area.0.via ≢ link.via) (areas graph) place.0 found.0 none place.1 (via_inside graph found.0 link found.2))
      | inr between ↦ between
    ]

-- ---- rows of other units

rows_pieces : (graph : Graph) (profile : Profile) (some : List (Area × List ℕ × List (List Bool))) → rows_of (network graph) profile (flat_map (area_links graph) some) ≡ flat_map (λ (area : Area × List ℕ × List (List Bool)). rows_of (network graph) profile (area_links graph area)) some
unfolding rows_of
rows_pieces graph profile [] = refl
rows_pieces graph profile (area ∷ some) = rows_joined (network graph) profile (area_links graph area) (flat_map (area_links graph) some) ∙ ap (λ (rows : List TableLink). rows_of (network graph) profile (area_links graph area) ++ rows) (rows_pieces graph profile some)

-- all links across a unit have its number
all_inside : (graph : Graph) (P : Link → Type 0) (area : Area × List ℕ × List (List Bool)) → ((a b : ℕ) → P (inside_area graph area.0 a b)) → AllByRecursion P (area_links graph area)
all_inside graph P area holds =
    all_pieces P (λ (a : ℕ). map (inside_area graph area.0 a) (filter (joined_across area.2 area.1 a) area.1)) area.1
    (all_at_all (λ (a : ℕ). AllByRecursion P (map (inside_area graph area.0 a) (filter (joined_across area.2 area.1 a) area.1)))
    (λ a. all_mapped P (inside_area graph area.0 a) (filter (joined_across area.2 area.1 a) area.1) (all_at_all (λ (b : ℕ). P (inside_area graph area.0 a b)) (holds a) (filter (joined_across area.2 area.1 a) area.1)))
    area.1)

via_of : (given : Network) (link other : Link) → link_row given link ≡ link_row given other → id_at given.closables link.via ≡ id_at given.closables other.via
unfolding link_row
via_of given link other same = ap (λ (row : TableLink). row.via) same

lacks_row : (graph : Graph) (profile : Profile) (area : Area × List ℕ × List (List Bool)) (link : Link) → AllPairs (λ a b. a ≢ b) (network graph).closables → area.0.via < length (network graph).closables → link.via < length (network graph).closables → area.0.via ≢ link.via
    → Lacks (rows_of (network graph) profile (area_links graph area)) (link_row (network graph) link)
unfolding rows_of
lacks_row graph profile area link once here there differ =
    let given = network graph in
    let row = link_row given link in
    all_mapped (λ (r : TableLink). r ≢ row) (link_row given) (filter (passes_link given profile) (area_links graph area))
    (all_kept (λ (l : Link). link_row given l ≢ row) (passes_link given profile) (area_links graph area)
    (all_inside graph (λ (l : Link). link_row given l ≢ row) area
    (λ a b same. differ (id_same given.closables area.0.via link.via once here there (via_of given (inside_area graph area.0 a b) link same)))))

-- units that are among what can be closed and have other numbers
lacks_rows : (graph : Graph) (profile : Profile) (link : Link) (some : List (Area × List ℕ × List (List Bool))) → AllPairs (λ a b. a ≢ b) (network graph).closables → link.via < length (network graph).closables
    → AllByRecursion (λ (area : Area × List ℕ × List (List Bool)). area.0.via < length (network graph).closables) some → AllByRecursion (λ (area : Area × List ℕ × List (List Bool)). area.0.via ≢ link.via) some
    → Lacks (flat_map (λ (area : Area × List ℕ × List (List Bool)). rows_of (network graph) profile (area_links graph area)) some) (link_row (network graph) link)
lacks_rows graph profile link [] once there within differ = tt
lacks_rows graph profile link (area ∷ some) once there within differ =
    all_joined (λ (r : TableLink). r ≢ link_row (network graph) link) (rows_of (network graph) profile (area_links graph area)) _ (lacks_row graph profile area link once within.0 there differ.0) (lacks_rows graph profile link some once there within.1 differ.1)

-- ---- places among all

all_rows : (graph : Graph) (profile : Profile) → (network graph).links ≡ flat_map (area_links graph) (areas graph) ++ passages graph
    → rows_of (network graph) profile (network graph).links ≡ rows_of (network graph) profile (flat_map (area_links graph) (areas graph)) ++ rows_of (network graph) profile (passages graph)
all_rows graph profile law = ap (rows_of (network graph) profile) law ∙ rows_joined (network graph) profile (flat_map (area_links graph) (areas graph)) (passages graph)

-- what the laws of a graph say
pub record AreLaws (graph : Graph) : Type 0 where
  pub links : (network graph).links ≡ flat_map (area_links graph) (areas graph) ++ passages graph
  pub once : AllPairs (λ a b. a ≢ b) (network graph).closables
  pub units : All (λ (area : Area × List ℕ × List (List Bool)). area.0.via < length (network graph).closables) (areas graph)
  pub vias : (link : Link) → Contains (network graph).links link → link.via < length (network graph).closables

units_within : (graph : Graph) → AreLaws graph → AllByRecursion (λ (area : Area × List ℕ × List (List Bool)). area.0.via < length (network graph).closables) (areas graph)
units_within graph laws = recursion_from_All (λ (area : Area × List ℕ × List (List Bool)). area.0.via < length (network graph).closables) (areas graph) laws.units

-- behind the rows of the units before its own
pub stands_across : (graph : Graph) (profile : Profile) (w : ℕ) (area : Area × List ℕ × List (List Bool)) (link : Link) (first k : ℕ) → AreLaws graph → IsStrictlyIncreasing (map number (areas graph)) → Contains (network graph).links link
    → slice_get (areas graph) w ≡ Some area → area.0.via ≡ link.via → first ≡ rows_before graph profile w → StandsFirst (network graph) profile (area_links graph area) link k → StandsFirst (network graph) profile (network graph).links link (first + k)
stands_across graph profile w area link first k laws rise there at via first_is stands =
    let given = network graph in
    let row = link_row given link in
    let g : Area × List ℕ × List (List Bool) → List TableLink = λ a. rows_of given profile (area_links graph a) in
    let before : AllByRecursion (λ (a : Area × List ℕ × List (List Bool)). a.0.via ≢ link.via) (take w (areas graph)) =
    all_unmapped (λ (n : ℕ). n ≢ link.via) number (take w (areas graph))
    (subst (AllByRecursion (λ (n : ℕ). n ≢ link.via)) (take-map number w (areas graph))
    (all_by (λ (n : ℕ). n < area.0.via) (λ (n : ℕ). n ≢ link.via) (λ n less same. omega (arith, less, same, via)) (take w (map number (areas graph)))
    (lesser_before (map number (areas graph)) w area.0.via (rises_from (map number (areas graph)) rise) (number_at graph w area at)))) in
    let lacks = lacks_rows graph profile link (take w (areas graph)) laws.once (laws.vias link there) (all_front (λ (a : Area × List ℕ × List (List Bool)). a.0.via < length given.closables) w (areas graph) (units_within graph laws)) before in
    let piece : IsFirstPlace (flat_map g (areas graph)) row (length (flat_map g (take w (areas graph))) + k) = first_piece g (areas graph) w area row k at lacks stands in
    let here : IsFirstPlace (rows_of given profile (flat_map (area_links graph) (areas graph))) row (first + k) =
    moved (rows_of given profile (flat_map (area_links graph) (areas graph))) row (length (flat_map g (take w (areas graph))) + k) (first + k)
    (ap (λ (n : ℕ). n + k) (sym (first_is ∙ ap (λ (rows : List TableLink). length rows) (rows_pieces graph profile (take w (areas graph))))))
    (subst (λ (rows : List TableLink). IsFirstPlace rows row (length (flat_map g (take w (areas graph))) + k)) (sym (rows_pieces graph profile (areas graph))) piece) in
    subst (λ (rows : List TableLink). IsFirstPlace rows row (first + k)) (sym (all_rows graph profile laws.links))
    (first_before (rows_of given profile (flat_map (area_links graph) (areas graph))) (rows_of given profile (passages graph)) row (first + k) here)

-- behind the rows of all units
pub stands_between : (graph : Graph) (profile : Profile) (link : Link) (first k : ℕ) → AreLaws graph → Contains (network graph).links link → AllByRecursion (λ (area : Area × List ℕ × List (List Bool)). area.0.via ≢ link.via) (areas graph)
    → first ≡ length (rows_of (network graph) profile (flat_map (area_links graph) (areas graph))) → StandsFirst (network graph) profile (passages graph) link k → StandsFirst (network graph) profile (network graph).links link (first + k)
stands_between graph profile link first k laws there none first_is stands =
    let given = network graph in
    let row = link_row given link in
    let front = rows_of given profile (flat_map (area_links graph) (areas graph)) in
    let lacks : Lacks front row = subst (λ (rows : List TableLink). Lacks rows row) (sym (rows_pieces graph profile (areas graph))) (lacks_rows graph profile link (areas graph) laws.once (laws.vias link there) (units_within graph laws) none) in
    subst (λ (rows : List TableLink). IsFirstPlace rows row (first + k)) (sym (all_rows graph profile laws.links))
    (moved (front ++ rows_of given profile (passages graph)) row (length front + k) (first + k) (ap (λ (n : ℕ). n + k) (sym first_is)) (first_behind front (rows_of given profile (passages graph)) row k lacks stands))

-- a place is the number of a row, and of these there are few
pub place_few : (graph : Graph) (profile : Profile) (link : Link) (k : ℕ) → StandsFirst (network graph) profile (network graph).links link k → k < length (network graph).links
place_few graph profile link k stands =
    let within = slice_get_within (rows_of (network graph) profile (network graph).links) k (link_row (network graph) link) stands.there in
    let few = rows_few (network graph) profile (network graph).links in
    omega (arith, within, few)

-- ---- starts

-- where the rows of a unit begin is told of a unit
pub record IsOfUnit (graph : Graph) (profile : Profile) (start : AreaStart) : Type 0 where
  pub is : IsStart graph profile start.area start
  pub within : start.area < length (areas graph)

pub of_unit : (graph : Graph) (profile : Profile) (starts : Starts) (start : AreaStart) → AreStarts graph profile starts → Contains starts.units.items start → IsOfUnit graph profile start
of_unit graph profile starts start are there =
    let at = at_item starts.units.items start there in
    let is = are.units at.0 start at.1 in
    let own = is.area in
    let count = are.count in
    let within = slice_get_within starts.units.items at.0 start at.1 in
    record { is = subst (λ (w : ℕ). IsStart graph profile w start) (sym own) is; within = omega (arith, own, count, within) }

-- a number that no start has is that of no unit
pub of_none : (graph : Graph) (profile : Profile) (starts : Starts) (via : ℕ) → AreStarts graph profile starts → All (λ (start : AreaStart). start.via ≢ via) starts.units.items → AllByRecursion (λ (area : Area × List ℕ × List (List Bool)). area.0.via ≢ via) (areas graph)
of_none graph profile starts via are none =
    recursion_from_All (λ (area : Area × List ℕ × List (List Bool)). area.0.via ≢ via) (areas graph) (λ k d within same.
    let area : Area × List ℕ × List (List Bool) = get_or (areas graph) k d in
    let count = are.count in
    let start = at_place starts.units.items k (omega (arith, count, within)) in
    let is = are.units k start.0 start.1 in
    of_item (λ (s : AreaStart). s.via ≢ via) starts.units.items k start.0 (recursion_from_All (λ (s : AreaStart). s.via ≢ via) starts.units.items none) start.1
    (is.via area (slice_get-get_or (areas graph) k d within) ∙ same))

-- ---- a link by a relationship

-- what is known of its key, and of its place among all
pub record IsKnown (graph : Graph) (profile : Profile) (firsts : BTreeMap RowKey ℕ) (starts : Starts) (link : Link) : Type 0 where
  pub k : ℕ
  pub found : get key_cmp firsts (key_of link) ≡ Some k
  pub stands : StandsFirst (network graph) profile (network graph).links link (starts.passages + k)

pub between : (graph : Graph) (profile : Profile) (starts : Starts) (firsts : BTreeMap RowKey ℕ) (link : Link) → AreLaws graph → AreStarts graph profile starts → KnowsFirsts (network graph) profile (passages graph) firsts
    → All (λ (start : AreaStart). start.via ≢ link.via) starts.units.items → Contains (network graph).links link → IsAllowed profile (link_facts (network graph) link) → IsKnown graph profile firsts starts link
between graph profile starts firsts link laws are knows none there allowed =
    let given = network graph in
    let none_is = of_none graph profile starts link.via are none in
    let among = in_none graph link laws.links none_is there in
    let within : AllByRecursion (λ (l : Link). l.via < length given.closables) (passages graph) =
    recursion_from_All (λ (l : Link). l.via < length given.closables) (passages graph)
    (λ k d below. laws.vias (get_or (passages graph) k d) (behind given.links (flat_map (area_links graph) (areas graph)) (passages graph) (passages graph) k d laws.links refl below)) in
    let known = known_place given profile (passages graph) firsts link laws.once within (laws.vias link there) knows among (passes given profile link allowed) in
    record { k = known.0; found = known.1; stands = stands_between graph profile link starts.passages known.0 laws there none_is are.passages known.2 }

-- the place that is known is the first among all
pub stands_known : (graph : Graph) (profile : Profile) (firsts : BTreeMap RowKey ℕ) (starts : Starts) (link : Link) (k : ℕ) → IsKnown graph profile firsts starts link → get key_cmp firsts (key_of link) ≡ Some k
    → StandsFirst (network graph) profile (network graph).links link (starts.passages + k)
stands_known graph profile firsts starts link k known found =
    subst (λ (n : ℕ). StandsFirst (network graph) profile (network graph).links link (starts.passages + n)) (same_Some known.k k (sym known.found ∙ found)) known.stands

-- ---- a link across a unit

pub across : (graph : Graph) (profile : Profile) (starts : Starts) (start : AreaStart) (link : Link) (k : ℕ) → AreLaws graph → IsStrictlyIncreasing (map number (areas graph)) → AreStarts graph profile starts → Contains starts.units.items start
    → start.via ≡ link.via → Contains (network graph).links link
    → ((area : Area × List ℕ × List (List Bool)) → slice_get (areas graph) start.area ≡ Some area → StandsFirst (network graph) profile (area_links graph area) link k) → StandsFirst (network graph) profile (network graph).links link (start.first + k)
across graph profile starts start link k laws rise are of via there stands =
    let unit = of_unit graph profile starts start are of in
    let at = at_place (areas graph) start.area unit.within in
    stands_across graph profile start.area at.0 link start.first k laws rise there at.1 (sym (unit.is.via at.0 at.1) ∙ via) unit.is.first (stands at.0 at.1)
