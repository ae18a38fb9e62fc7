-- Where the row of a link across a unit stands among those of the unit.
use Rattle.std.proofs.Common.{◌≡◌, ◌≢◌, ℕ, ◌+◌, ◌*◌, ◌-◌, ◌<◌, ◌≤◌, Bool, true, false, ◌&&◌, List, [], ◌∷◌, length, map, filter, flat_map, Some, refl, sym, ap, ◌∙◌, subst, true≢false, inl, inr}
use Rattle.std.specs.Prelude.{Contains, slice_get, nat_lt}
use Rattle.std.proofs.lemmas.List.Kept.{IsStrictlyIncreasing-filter}
use Rattle.venue_types.specs.declared.link.Link.{Link}
use Rattle.venue_types.specs.declared.settings.Profile.{Profile}
use Rattle.imdf_access.specs.Access.{IsAllowed}
use Rattle.link_graph.specs.declared.areas.Area.{Area}
use Rattle.link_graph.specs.declared.graph.Graph.{Graph}
use Rattle.link_graph.specs.Areas.{IsArea, area_links, inside_area, joined_across}
use Rattle.link_graph.specs.Cores.{place_in}
use Rattle.link_graph.specs.Graphs.{network}
use Rattle.link_graph.specs.Networks.{Network, link_facts}
use Rattle.unit_sight.specs.Tables.{joins, IsWhole}
use Rattle.link_graph.proofs.Items.{from_flat_map, from_filter}
use Rattle.rule_reports.proofs.Members.{Contains-nil, Contains-first, Contains-later, Contains-cons_cases}
use Rattle.route_certificate.specs.declared.table.TableLink.{TableLink}
use Rattle.route_answers.specs.Adding.{joined_passing, pair_row, rows_from}
use Rattle.route_answers.specs.Passing.{passes_by, passes_node, passes_link, link_row, rows_of}
use Rattle.route_answers.specs.Places.{IsFirstPlace}
use Rattle.route_answers.specs.Placing.{StandsFirst}
use Rattle.route_answers.proofs.Choosing.{crossed_rows}
use Rattle.route_answers.proofs.FirstRows.{moved}
use Rattle.route_answers.proofs.JoinedPlaces.{joined_pair}
use Rattle.route_answers.proofs.JoinedRows.{joined_rows}
use Rattle.route_answers.proofs.Judging.{PartsLaw, allowed_is, link_passes}
use Rattle.route_answers.proofs.PairPlaces.{IsRowOf, first_pair}
use Rattle.route_answers.proofs.Rising.{passed_at}

-- ---- a link across a unit

-- it leads from a member to one with which that is joined
pub record IsInside (graph : Graph) (area : Area) (members : List ℕ) (table : List (List Bool)) (link : Link) : Type 0 where
  pub from : Contains members link.from
  pub to : Contains members link.to
  pub joined : joined_across table members link.from link.to ≡ true
  pub is : inside_area graph area link.from link.to ≡ link

is_inside : (graph : Graph) (area : Area) (members : List ℕ) (table : List (List Bool)) (a b : ℕ) (link : Link) → Contains members a → Contains members b → joined_across table members a b ≡ true → inside_area graph area a b ≡ link → IsInside graph area members table link
is_inside graph area members table a b link from to joined is =
    subst (IsInside graph area members table) is (record { from = from; to = to; joined = joined; is = refl })

from_map : {X : Type 0} (h : ℕ → X) (xs : List ℕ) (x : X) → Contains (map h xs) x → (b : ℕ) × Contains xs b × (h b ≡ x)
from_map h [] x there = absurd (Contains-nil x there)
from_map h (b ∷ xs) x there = elim (Contains-cons_cases (h b) (map h xs) x there) [
  | inl here ↦ (b, Contains-first b xs, here)
  | inr later ↦ let rest = from_map h xs x later in (rest.0, Contains-later b xs rest.0 rest.1, rest.2)
]

pub inside : (graph : Graph) (area : Area) (members : List ℕ) (table : List (List Bool)) (link : Link) → Contains (area_links graph (area, members, table)) link → IsInside graph area members table link
inside graph area members table link there =
    let start = from_flat_map (λ (a : ℕ). map (inside_area graph area a) (filter (joined_across table members a) members)) members link there in
    let end = from_map (inside_area graph area start.0) (filter (joined_across table members start.0) members) link start.2 in
    let other = from_filter (joined_across table members start.0) members end.0 end.1 in
    is_inside graph area members table start.0 end.0 link start.1 other.0 other.1 end.2

-- to another, since none is joined with itself
ends_apart : (graph : Graph) (area : Area) (members : List ℕ) (table : List (List Bool)) (link : Link) → IsArea (network graph) area members table → IsInside graph area members table link → link.from ≢ link.to
unfolding joined_across
ends_apart graph area members table link is_area is_link same =
    true≢false (sym is_link.joined ∙ ap (λ (n : ℕ). joins table (place_in members link.from) (place_in members n)) (sym same) ∙ is_area.apart (place_in members link.from))

-- ---- what the profile passes of it

first_true : (a b : Bool) → (a && b) ≡ true → a ≡ true
first_true true b e = refl
first_true false b e = absurd (true≢false (sym e))

second_true : (a b : Bool) → (a && b) ≡ true → b ≡ true
second_true true b e = e
second_true false b e = absurd (true≢false (sym e))

pub passes : (given : Network) (profile : Profile) (link : Link) → IsAllowed profile (link_facts given link) → passes_link given profile link ≡ true
unfolding passes_link
passes given profile link allowed = (allowed_is profile (link_facts given link)).1 allowed

-- its unit and both its ends
pub record ArePassed (graph : Graph) (profile : Profile) (area : Area) (link : Link) : Type 0 where
  pub way : passes_by profile area.kind area.restricted ≡ true
  pub from : passes_node (network graph) profile link.from ≡ true
  pub to : passes_node (network graph) profile link.to ≡ true

pub passed : PartsLaw → (graph : Graph) (profile : Profile) (area : Area) (members : List ℕ) (table : List (List Bool)) (link : Link) → IsArea (network graph) area members table → IsInside graph area members table link → IsAllowed profile (link_facts (network graph) link) → ArePassed graph profile area link
passed law graph profile area members table link is_area is_link allowed =
    let given = network graph in
    let from = passes_node given profile link.from in
    let to = passes_node given profile link.to in
    let parts = sym (link_passes law given profile link) ∙ passes given profile link allowed in
    let ends = second_true (passes_by profile link.kind (given.barred link.via)) (from && to) parts in
    let way : passes_by profile area.kind area.restricted ≡ passes_by profile link.kind (given.barred link.via) =
    ap (λ (b : Bool). passes_by profile area.kind b) (sym is_area.barred) ∙ ap (λ (l : Link). passes_by profile l.kind (given.barred l.via)) is_link.is in
    record {
      way = way ∙ first_true (passes_by profile link.kind (given.barred link.via)) (from && to) parts;
      from = first_true from to ends;
      to = second_true from to ends;
    }

-- ---- its place

-- where its ends stand among the members that pass
pub record AreRanks (ok : ℕ → Bool) (members : List ℕ) (link : Link) (start end : ℕ) : Type 0 where
  pub from : slice_get (filter ok members) start ≡ Some link.from
  pub to : slice_get (filter ok members) end ≡ Some link.to

pub ranks : PartsLaw → (graph : Graph) (profile : Profile) (area : Area) (members : List ℕ) (table : List (List Bool)) (link : Link) (start end : ℕ) → IsArea (network graph) area members table → IsInside graph area members table link → IsAllowed profile (link_facts (network graph) link)
    → start ≡ length (filter (λ (m : ℕ). nat_lt m link.from && passes_node (network graph) profile m) members)
    → end ≡ length (filter (λ (m : ℕ). nat_lt m link.to && passes_node (network graph) profile m) members)
    → AreRanks (passes_node (network graph) profile) members link start end
ranks law graph profile area members table link start end is_area is_link allowed start_is end_is =
    let ok = passes_node (network graph) profile in
    let pass = passed law graph profile area members table link is_area is_link allowed in
    record {
      from = ap (λ (n : ℕ). slice_get (filter ok members) n) start_is ∙ passed_at ok members link.from is_area.rise is_link.from pass.from;
      to = ap (λ (n : ℕ). slice_get (filter ok members) n) end_is ∙ passed_at ok members link.to is_area.rise is_link.to pass.to;
    }

row_ends : (graph : Graph) (area : Area) → IsRowOf (pair_row graph area)
unfolding link_row
row_ends graph area = record { from = λ a b. refl; to = λ a b. refl }

pub unit_place : PartsLaw → (graph : Graph) (profile : Profile) (area : Area) (members : List ℕ) (table : List (List Bool)) (link : Link) (count start end place : ℕ) → IsArea (network graph) area members table → IsWhole table → IsInside graph area members table link
    → IsAllowed profile (link_facts (network graph) link) → count ≡ length (filter (passes_node (network graph) profile) members) → AreRanks (passes_node (network graph) profile) members link start end
    → (end ≤ start → place ≡ start * (count - 1) + end) → (start < end → place ≡ start * (count - 1) + (end - 1)) → StandsFirst (network graph) profile (area_links graph (area, members, table)) link place
unfolding rows_from
unit_place law graph profile area members table link count start end place is_area whole is_link allowed count_is are before behind =
    let given = network graph in
    let ok = passes_node given profile in
    let xs = filter ok members in
    let pass = passed law graph profile area members table link is_area is_link allowed in
    let stands = first_pair (pair_row graph area) (row_ends graph area) xs start end link.from link.to place (IsStrictlyIncreasing-filter ok members is_area.rise) are.from are.to (ends_apart graph area members table link is_area is_link)
    (λ h. before h ∙ ap (λ (n : ℕ). start * (n - 1) + end) count_is)
    (λ h. behind h ∙ ap (λ (n : ℕ). start * (n - 1) + (end - 1)) count_is) in
    subst (λ (row : TableLink). IsFirstPlace (rows_of given profile (area_links graph (area, members, table))) row place) (ap (link_row given) is_link.is)
    (subst (λ (rows : List TableLink). IsFirstPlace rows (pair_row graph area link.from link.to) place) (sym (crossed_rows law graph profile area members table (is_area.whole whole) is_area.barred pass.way)) stands)

-- the same where some aren't joined
pub joined_place : PartsLaw → (graph : Graph) (profile : Profile) (area : Area) (members : List ℕ) (table : List (List Bool)) (link : Link) (place : ℕ) → IsArea (network graph) area members table → IsInside graph area members table link
    → IsAllowed profile (link_facts (network graph) link)
    → place ≡ length (flat_map (joined_passing graph profile members table) (filter (λ (m : ℕ). nat_lt m link.from && passes_node (network graph) profile m) members))
    + length (filter (λ (b : ℕ). nat_lt b link.to && (joined_across table members link.from b && passes_node (network graph) profile b)) members)
    → StandsFirst (network graph) profile (area_links graph (area, members, table)) link place
joined_place law graph profile area members table link place is_area is_link allowed place_is =
    let given = network graph in
    let ok = passes_node given profile in
    let pass = passed law graph profile area members table link is_area is_link allowed in
    let stands = joined_pair (pair_row graph area) (row_ends graph area) (joined_across table members) ok members link.from link.to is_area.rise is_link.from is_link.to pass.from pass.to is_link.joined in
    subst (λ (row : TableLink). IsFirstPlace (rows_of given profile (area_links graph (area, members, table))) row place) (ap (link_row given) is_link.is)
    (subst (λ (rows : List TableLink). IsFirstPlace rows (pair_row graph area link.from link.to) place) (sym (joined_rows law graph profile area members (joined_across table members) is_area.barred pass.way))
    (moved _ (pair_row graph area link.from link.to) _ place (sym place_is) stands))
