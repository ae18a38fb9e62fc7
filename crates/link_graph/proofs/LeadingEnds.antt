-- How many links there are, and where they lead.
use Rattle.std.proofs.Common.{◌≡◌, ℕ, ◌+◌, ◌<◌, ◌≤◌, Bool, true, false, cond, not, List, [], ◌∷◌, Some, length, get_or, refl, subst, arith, inl, inr, length-append, eq-eqb}
use Rattle.std.specs.Prelude.{slice_get, filter, Contains, sum_by, IsTrue}
use Rattle.std.specs.List.{flat_map}
use Rattle.std.proofs.lemmas.List.{length-map}
use Rattle.std.proofs.lemmas.List.Concat.{length-flat_map}
use Rattle.std.proofs.lemmas.List.Elements.{All-contains, Contains-append_cases}
use Rattle.std.proofs.lemmas.List.Filters.{length-filter_both}
use Rattle.std.proofs.lemmas.List.Sums.{sum_by-cons, sum_by-le}
use Rattle.rule_reports.proofs.Members.{Contains-nil, Contains-first, Contains-later}
use Rattle.venue_types.specs.declared.link.Link.{Link}
use Rattle.venue_nodes.specs.Crowds.{square_of}
use Rattle.venue_nodes.specs.Rows.{row_list}
use Rattle.venue_nodes.specs.Views.{node_list}
use Rattle.venue_nodes.proofs.Items.{member_at, at_member}
use Rattle.venue_nodes.proofs.Spread.{from_map}
use Rattle.link_graph.specs.declared.parts.Core.{Core}
use Rattle.link_graph.specs.declared.parts.Crossing.{Crossing}
use Rattle.link_graph.specs.Cores.{IsSoundCore, IsRow, IsPassage, network_in, links_in, link_across, links_across_from, links_across, links_across_all, leaving_at, across_count, joined_in}
use Rattle.link_graph.specs.Networks.{links_out}
use Rattle.link_graph.specs.Leads.{starts_at}
use Rattle.link_graph.proofs.Items.{from_flat_map, from_then, from_filter, to_filter}
use Rattle.link_graph.proofs.LeadingPlaces.{out_long}

-- ---- how many

filter_few : {X : Type 0} (t : X → Bool) (xs : List X) → length (filter t xs) ≤ length xs
filter_few t xs = omega (arith, length-filter_both t (λ x. not (t x)) (λ x. refl) xs)

from_few : (core : Core) (crossing : Crossing) (row : List ℕ) (a : ℕ) → length (links_across_from core crossing row a) ≤ length row
from_few core crossing row a = omega (arith, length-map (filter (joined_in crossing row a) row) (link_across core crossing a), filter_few (joined_in crossing row a) row)

when_few : {Y : Type 0} (b : Bool) (ys : List Y) (k : ℕ) → length ys ≤ k → length (cond b ys []) ≤ k
when_few true ys k h = h
when_few false ys k h = omega arith

row_few : (core : Core) (crossing : Crossing) (row : List ℕ) → length (links_across core crossing row) ≤ square_of row
row_few core crossing row =
    let long = length-flat_map (links_across_from core crossing row) row in
    let sum = sum_by-le (λ a. length (links_across_from core crossing row a)) (length row) row (λ k d within. from_few core crossing row (get_or row k d)) in
    when_few crossing.walked (flat_map (links_across_from core crossing row) row) (square_of row) (omega (arith, long, sum))

all_few : (core : Core) (crossings : List Crossing) (rows : List (List ℕ)) → length (links_across_all core crossings rows) ≤ sum_by square_of rows
all_few core [] rows = omega arith
all_few core (crossing ∷ crossings) [] = omega arith
all_few core (crossing ∷ crossings) (row ∷ rows) =
    let both = length-append (links_across core crossing row) (links_across_all core crossings rows) in
    let here = row_few core crossing row in
    let later = all_few core crossings rows in
    let sum = sum_by-cons square_of row rows in
    omega (arith, both, here, later, sum)

-- there are few links
pub links_few : (core : Core) → IsSoundCore core → length (links_in core) ≤ 32800000
unfolding links_in
links_few core sound =
    let both = length-append (links_across_all core core.crossings.items (row_list core.rows)) core.passages.items in
    let across = all_few core core.crossings.items (row_list core.rows) in
    let squares = sound.squares in
    let passages = sound.few_passages in
    omega (arith, both, across, squares, passages)

pub out_few : (core : Core) (n : ℕ) → IsSoundCore core → length (links_out (network_in core) n) ≤ 32800000
unfolding network_in
out_few core n sound = omega (arith, filter_few (starts_at n) (links_in core), links_few core sound)

-- the parts of what goes out of a node fit
pub parts_few : (core : Core) (n : ℕ) → IsSoundCore core → across_count core n + length (leaving_at core n) ≤ 32800000
parts_few core n sound = omega (arith, out_long core n sound, out_few core n sound)

-- ---- where they lead

-- a link across the unit of a row, from member to member
pub record IsAcross (core : Core) (crossings : List Crossing) (rows : List (List ℕ)) (link : Link) : Type 0 where
  pub crossing : Crossing
  pub row : List ℕ
  pub a : ℕ
  pub b : ℕ
  pub is_crossing : Contains crossings crossing
  pub is_row : Contains rows row
  pub start : Contains row a
  pub finish : Contains row b
  pub joined : IsTrue (joined_in crossing row a b)
  pub is : link_across core crossing a b ≡ link

of_row : (core : Core) (crossing : Crossing) (crossings : List Crossing) (row : List ℕ) (rows : List (List ℕ)) (link : Link) → Contains (links_across core crossing row) link → IsAcross core (crossing ∷ crossings) (row ∷ rows) link
of_row core crossing crossings row rows link h =
    let some = from_then crossing.walked (flat_map (links_across_from core crossing row) row) link h in
    let first = from_flat_map (links_across_from core crossing row) row link some.1 in
    let second = from_map (link_across core crossing first.0) (filter (joined_in crossing row first.0) row) link first.2 in
    let kept = from_filter (joined_in crossing row first.0) row second.0 second.1 in
    record {
      crossing = crossing;
      row = row;
      a = first.0;
      b = second.0;
      is_crossing = Contains-first crossing crossings;
      is_row = Contains-first row rows;
      start = first.1;
      finish = kept.0;
      joined = kept.1;
      is = second.2;
    }

across_later : (core : Core) (crossing : Crossing) (crossings : List Crossing) (row : List ℕ) (rows : List (List ℕ)) (link : Link) → IsAcross core crossings rows link → IsAcross core (crossing ∷ crossings) (row ∷ rows) link
across_later core crossing crossings row rows link h = record {
  crossing = h.crossing;
  row = h.row;
  a = h.a;
  b = h.b;
  is_crossing = Contains-later crossing crossings h.crossing h.is_crossing;
  is_row = Contains-later row rows h.row h.is_row;
  start = h.start;
  finish = h.finish;
  joined = h.joined;
  is = h.is;
}

pub across_from : (core : Core) (crossings : List Crossing) (rows : List (List ℕ)) (link : Link) → Contains (links_across_all core crossings rows) link → IsAcross core crossings rows link
across_from core [] rows link h = absurd (Contains-nil link h)
across_from core (crossing ∷ crossings) [] link h = absurd (Contains-nil link h)
across_from core (crossing ∷ crossings) (row ∷ rows) link h = elim (Contains-append_cases (links_across core crossing row) (links_across_all core crossings rows) link h) [
  | inl here ↦ of_row core crossing crossings row rows link here
  | inr there ↦ across_later core crossing crossings row rows link (across_from core crossings rows link there)
]

-- both ends are nodes
pub record HasEnds (core : Core) (link : Link) : Type 0 where
  pub from : link.from < length (node_list core.nodes)
  pub to : link.to < length (node_list core.nodes)

across_ends : (core : Core) (link : Link) → IsSoundCore core → IsAcross core core.crossings.items (row_list core.rows) link → HasEnds core link
across_ends core link sound h =
    let kept = All-contains (IsRow core) (row_list core.rows) h.row sound.rows h.is_row in
    subst (HasEnds core) h.is (record {
      from = All-contains (λ m. m < length (node_list core.nodes)) h.row h.a kept.within h.start;
      to = All-contains (λ m. m < length (node_list core.nodes)) h.row h.b kept.within h.finish;
    })

pub link_ends : (core : Core) (link : Link) → IsSoundCore core → Contains (links_in core) link → HasEnds core link
unfolding links_in
link_ends core link sound h = elim (Contains-append_cases (links_across_all core core.crossings.items (row_list core.rows)) core.passages.items link h) [
  | inl here ↦ across_ends core link sound (across_from core core.crossings.items (row_list core.rows) link here)
  | inr there ↦ let kept = All-contains (IsPassage core) core.passages.items link sound.passages there in record { from = kept.from; to = kept.to }
]

-- ---- by place

pub out_member : (core : Core) (n place : ℕ) (link : Link) → slice_get (links_out (network_in core) n) place ≡ Some link → Contains (links_in core) link
unfolding network_in
out_member core n place link h = (from_filter (starts_at n) (links_in core) link (member_at (filter (starts_at n) (links_in core)) place link h)).0

pub out_ends : (core : Core) (n place : ℕ) (link : Link) → IsSoundCore core → slice_get (links_out (network_in core) n) place ≡ Some link → HasEnds core link
out_ends core n place link sound h = link_ends core link sound (out_member core n place link h)

-- a link stands at a place among those out of its start, and what stands there is a link
pub stands_out : (core : Core) (link : Link) → IsSoundCore core → Contains (network_in core).links link → (link.from < length (network_in core).nodes) × (place : ℕ) × (slice_get (links_out (network_in core) link.from) place ≡ Some link)
unfolding network_in
stands_out core link sound h =
    let ends = link_ends core link sound h in
    let at = at_member (filter (starts_at link.from) (links_in core)) link (to_filter (starts_at link.from) (links_in core) link h (eq-eqb link.from link.from refl)) in
    (ends.from, at.0, at.1)

pub out_stands : (core : Core) (link : Link) (place : ℕ) → slice_get (links_out (network_in core) link.from) place ≡ Some link → Contains (network_in core).links link
unfolding network_in
out_stands core link place h = (from_filter (starts_at link.from) (links_in core) link (member_at (filter (starts_at link.from) (links_in core)) place link h)).0
