-- What the next link of a stretch is, and how it is read again.
use Rattle.std.proofs.Common.{◌≡◌, ℕ, ◌+◌, ◌-◌, ◌<◌, ◌≤◌, zero, suc, max, Bool, true, false, cond, not, ◌&&◌, ◌==◌, ◌⊎◌, nat_lt, filter, List, [], ◌∷◌, Option, Some, None, length, map, get_or, refl, sym, ap, ◌∙◌, subst, arith, inl, inr, true≢false}
use Rattle.std.specs.Prelude.{slice_get, Contains, IfSome, is_some}
use Rattle.std.proofs.lemmas.Bool.{cases_eq, leb-true, ne_eqb}
use Rattle.std.proofs.lemmas.List.Elements.{Contains-append_cases}
use Rattle.std.proofs.lemmas.Option.{same_Some, get_or_from_slice_get, slice_get-get_or, slice_get_within}
use Rattle.unit_sight.specs.Tables.{is_new, joins, neighbours, new_neighbours, IsWhole}
use Rattle.unit_sight.specs.Words.{count_to}
use Rattle.unit_sight.proofs.Counts.{count_rises}
use Rattle.venue_types.specs.declared.link.Link.{Link}
use Rattle.venue_nodes.specs.Rows.{row_list}
use Rattle.venue_nodes.specs.Views.{node_list}
use Rattle.venue_nodes.proofs.Items.{at_map, member_at, at_member}
use Rattle.link_graph.specs.declared.new_links.NewLink.{NewLink}
use Rattle.link_graph.specs.declared.parts.Core.{Core}
use Rattle.link_graph.specs.declared.parts.Crossing.{Crossing}
use Rattle.link_graph.specs.declared.parts.Seat.{Seat}
use Rattle.link_graph.specs.declared.stretches.Stretch.{Stretch}
use Rattle.link_graph.specs.declared.stretches.Way.TheVariants.{Between}
use Rattle.link_graph.specs.Cores.{IsSoundCore, network_in, links_in, link_across, others_in, seats_at, leaving_at, across_count, stretch_of}
use Rattle.link_graph.specs.Detours.{AreKnown, HasLinkAcross, IsKnown, IsKnownFrom, IsInFront, IsNewIn}
use Rattle.link_graph.specs.Leads.{links_of_row, links_of_seats, passages_out, lower_than, starts_at}
use Rattle.link_graph.specs.Lower.{lower_of}
use Rattle.link_graph.specs.Networks.{Network, Follow, links_out}
use Rattle.link_graph.specs.Rests.{rest_of, HasSeatIn, IsPlaceOf}
use Rattle.link_graph.proofs.AskingItems.{rising_apart}
use Rattle.link_graph.proofs.AskingItems.{same_place as place_once}
use Rattle.link_graph.proofs.AskingLinks.{across_there}
use Rattle.link_graph.proofs.AskingRanges.{crossing_there, passage_there}
use Rattle.link_graph.proofs.Items.{from_flat_map, from_filter}
use Rattle.link_graph.proofs.LeadingEnds.{out_ends, out_few, stands_out}
use Rattle.link_graph.proofs.LeadingLists.{at_place}
use Rattle.link_graph.proofs.LeadingPlaces.{lead_across, lead_passage}
use Rattle.link_graph.proofs.LeadingReads.{across_lead, some_joined}
use Rattle.link_graph.proofs.LeadingSeats.{IsSeated, links_out_are, node_seats, others_known, seat_seated}
use Rattle.link_graph.proofs.LeadingStretches.{stretch_known, row_made, seat_link, seat_some, rest_link, are_stretches}
use Rattle.link_graph.proofs.NewPlaces.{end_of, found_is, number_is, old_neighbour, ranked_at, rank_is, whole_old}
use Rattle.link_graph.proofs.TableRows.{neighbour_within, same_place}

-- ---- the seats of a node

-- a seat with its place, row and unit
pub record IsThere (core : Core) (n : ℕ) (seat : Seat) (crossing : Crossing) : Type 0 where
  pub i : ℕ
  pub stands : slice_get (seats_at core n) i ≡ Some seat
  pub unit : slice_get core.crossings.items seat.row ≡ Some crossing
  pub above : core.first_unit ≤ crossing.via
  pub seated : IsSeated core n seat.row seat.place
  pub same : seated.crossing ≡ crossing
  pub walked : crossing.walked ≡ true
  pub many : others_in core seat.row seat.place ≡ length (neighbours crossing.sights seat.place)

pub seat_there : (core : Core) (n : ℕ) (seat : Seat) (crossing : Crossing) → IsSoundCore core → Contains (seats_at core n) seat → slice_get core.crossings.items seat.row ≡ Some crossing → IsThere core n seat crossing
seat_there core n seat crossing sound h unit =
    let at = at_member (seats_at core n) seat h in
    let seated = seat_seated core n seat sound h in
    let some = seat_some core 0 (seats_at core n) at.0 seat (node_seats core n sound) at.1 in
    let walked = (some_joined core seat.row seat.place 0 crossing unit some).0 in
    record {
      i = at.0;
      stands = at.1;
      unit = unit;
      above = (crossing_there core seat.row crossing sound unit).unit;
      seated = seated;
      same = same_Some seated.crossing crossing (sym seated.is_crossing ∙ unit);
      walked = walked;
      many = others_known core seat.row seat.place crossing unit ∙ ap (λ (b : Bool). cond b (length (neighbours crossing.sights seat.place)) 0) walked;
    }

-- one of the links of a seat leads to a neighbour of its place
pub record IsNeighbour (core : Core) (n : ℕ) (seat : Seat) (crossing : Crossing) (row : List ℕ) (k : ℕ) (link : Link) : Type 0 where
  pub j : ℕ
  pub at : slice_get (neighbours crossing.sights seat.place) k ≡ Some j
  pub made : link_across core crossing n (get_or row j 0) ≡ link

neighbour_of : (core : Core) (n place : ℕ) (seat : Seat) (crossing : Crossing) (link : Link) (h : IsThere core n seat crossing) → IsSoundCore core → seat.first ≤ place → place < seat.first + others_in core seat.row seat.place
    → slice_get (links_out (network_in core) n) place ≡ Some link → IsNeighbour core n seat crossing h.seated.row (place - seat.first) link
neighbour_of core n place seat crossing link h sound from to at =
    let below : place - seat.first < others_in core seat.row seat.place = omega (arith, from, to) in
    let many = h.many in
    let item = at_place (neighbours crossing.sights seat.place) (place - seat.first) (omega (arith, below, many)) in
    let lead = across_lead core n seat.row seat.place (place - seat.first) item.0 crossing h.seated.row h.seated h.unit h.seated.is_row below item.1 in
    let here = seat_link core n place h.i seat link sound h.stands from to at in
    record { j = item.0; at = item.1; made = same_Some (link_across core crossing n (get_or h.seated.row item.0 0)) link (sym lead ∙ here) }

-- ---- where one has links across a unit

row_by_via : (core : Core) (v w : ℕ) (c d : Crossing) → IsSoundCore core → slice_get core.crossings.items v ≡ Some c → slice_get core.crossings.items w ≡ Some d → c.via ≡ d.via → v ≡ w
row_by_via core v w c d sound here there same =
    let via_of = λ (crossing : Crossing). crossing.via in
    place_once (map via_of core.crossings.items) v w d.via (rising_apart (map via_of core.crossings.items) sound.apart)
    (at_map via_of core.crossings.items v c here ∙ ap (λ (via : ℕ). Some via) same)
    (at_map via_of core.crossings.items w d there)

-- a link of one of the seats of a node goes across its unit
seat_by_link : (core : Core) (a w : ℕ) (crossing : Crossing) (link : Link) → IsSoundCore core → slice_get core.crossings.items w ≡ Some crossing → link.via ≡ crossing.via → Contains (links_of_seats core a (seats_at core a)) link
    → (seat : Seat) × Contains (seats_at core a) seat × (seat.row ≡ w)
seat_by_link core a w crossing link sound unit via h =
    let from = from_flat_map (λ (seat : Seat). links_of_row core a seat.row) (seats_at core a) link h in
    let seated = seat_seated core a from.0 sound from.1 in
    let at = at_member (links_of_row core a from.0.row) link from.2 in
    let made = row_made core a from.0.row seated.crossing seated.row at.0 link seated.is_crossing seated.is_row at.1 in
    (from.0, from.1, row_by_via core from.0.row w seated.crossing crossing sound seated.is_crossing unit (ap (λ (l : Link). l.via) made ∙ via))

no_passage : (core : Core) (a : ℕ) (link : Link) → IsSoundCore core → core.first_unit ≤ link.via → Contains (passages_out core a) link → ⊥
unfolding passages_out
no_passage core a link sound unit h =
    let below = (passage_there core link sound (from_filter (starts_at a) core.passages.items link h).0).via in
    omega (arith, below, unit)

seat_of_link : (core : Core) (w : ℕ) (crossing : Crossing) (link : Link) → IsSoundCore core → slice_get core.crossings.items w ≡ Some crossing → Contains (links_in core) link → link.via ≡ crossing.via → HasSeatIn core w link.from
unfolding network_in
seat_of_link core w crossing link sound unit there via =
    let out = stands_out core link sound there in
    let listed = subst (λ (ls : List Link). slice_get ls out.1 ≡ Some link) (links_out_are core link.from sound) out.2 in
    let above = (crossing_there core w crossing sound unit).unit in
    let seats = links_of_seats core link.from (seats_at core link.from) in
    let found : (seat : Seat) × Contains (seats_at core link.from) seat × (seat.row ≡ w) = elim (Contains-append_cases seats (passages_out core link.from) link (member_at _ out.1 link listed)) [
      | inl across ↦ seat_by_link core link.from w crossing link sound unit via across
      | inr passage ↦ absurd (no_passage core link.from link sound (subst (λ (v : ℕ). core.first_unit ≤ v) (sym via) above) passage)
    ] in
    (out.0, found.0, found.1, found.2)

-- who has a link across the unit of a seat has a seat in its row
pub has_seat : (core : Core) (seat : Seat) (crossing : Crossing) (known : Option ℕ) → IsSoundCore core → slice_get core.crossings.items seat.row ≡ Some crossing → HasLinkAcross (network_in core) (stretch_of core seat).way known → IfSome known (HasSeatIn core seat.row)
unfolding network_in
has_seat core seat crossing None sound unit has = _
has_seat core seat crossing (Some a) sound unit has =
    let first : (x : Link) × Contains (links_in core) x × (x.from ≡ a) × (x.via ≡ crossing.via) = subst (λ (t : Stretch). HasLinkAcross (network_in core) t.way (Some a)) (stretch_known core seat crossing unit) has in
    subst (HasSeatIn core seat.row) first.2 (seat_of_link core seat.row crossing first.0 sound unit first.1 first.3)

pub place_of_seat : (core : Core) (a w : ℕ) (seat : Seat) → IsSoundCore core → Contains (seats_at core a) seat → seat.row ≡ w → IsPlaceOf core w a seat.place
place_of_seat core a w seat sound h e =
    let seated = seat_seated core a seat sound h in
    let read = get_or_from_slice_get (row_list core.rows) seat.row seated.row [] seated.is_row in
    subst (λ (r : ℕ). IsPlaceOf core r a seat.place) e (subst (λ (members : List ℕ). slice_get members seat.place ≡ Some a) (sym read) seated.stands)

-- ---- what is known across a unit

-- where a node stands, if one is told
pub record IsKnownPlace (core : Core) (w : ℕ) (known place : Option ℕ) : Type 0 where
  pub none : known ≡ None → place ≡ None
  pub some : (a : ℕ) → known ≡ Some a → IfSome place (IsPlaceOf core w a) × (is_some place ≡ true)

old_cases : (a j : ℕ) (joined : Bool) → not (a == j) && not joined ≡ false → (a ≡ j) ⊎ (joined ≡ true)
old_cases a j true e = inr refl
old_cases a j false e = elim (cases_eq a j) [
  | inl same ↦ inl same
  | inr apart ↦ absurd (true≢false (sym (ap (λ (b : Bool). not b && true) (ne_eqb a j apart)) ∙ e))
]

-- from a member of the row of a unit
known_at : (core : Core) (n b p j : ℕ) (seat : Seat) (crossing : Crossing) (second : Link) (h : IsThere core n seat crossing) → IsSoundCore core → slice_get h.seated.row p ≡ Some b → j < length h.seated.row → link_across core crossing n (get_or h.seated.row j 0) ≡ second
    → is_new crossing.sights (Some p) j ≡ false → IsKnownFrom (network_in core) b second
unfolding network_in
known_at core n b p j seat crossing second h sound stands within made old = elim (old_cases p j (joins crossing.sights p j) old) [
  | inl same ↦ inl (sym (ap (λ (l : Link). l.to) made) ∙ ap (λ (i : ℕ). get_or h.seated.row i 0) (sym same) ∙ get_or_from_slice_get h.seated.row p b 0 stands)
  | inr joined ↦
      let row = h.seated.row in
      let e = get_or row j 0 in
      let across = link_across core crossing b e in
      let there = across_there core across (record {
        k = seat.row;
        crossing = crossing;
        row = row;
        unit = h.unit;
        there = h.seated.is_row;
        goes = record {
          walked = h.walked;
          start = member_at row p b stands;
          finish = member_at row j e (slice_get-get_or row j 0 within);
          joined = same_place crossing row p b j h.seated.kept.rise stands within ∙ joined;
          via = refl;
          cost = refl;
          kind = refl;
        };
      }) in
      inr (across, there, refl, ap (λ (l : Link). l.to) made, ap (λ (l : Link). l.via) made)
]

-- a link of a seat to a place that isn't new is known
old_known : (core : Core) (n place : ℕ) (seat : Seat) (crossing : Crossing) (known at : Option ℕ) (second : Link) (h : IsThere core n seat crossing) → IsSoundCore core → IsKnownPlace core seat.row known at
    → (next : IsNeighbour core n seat crossing h.seated.row (place - seat.first) second) → is_new crossing.sights at next.j ≡ false → IsKnown (network_in core) known second
old_known core n place seat crossing None at second h sound is next old =
    absurd (true≢false (subst (λ (a : Option ℕ). is_new crossing.sights a next.j ≡ false) (is.none refl) old))
old_known core n place seat crossing (Some b) None second h sound is next old = absurd (true≢false (sym (is.some b refl).1))
old_known core n place seat crossing (Some b) (Some p) second h sound is next old =
    let row = h.seated.row in
    let read = get_or_from_slice_get (row_list core.rows) seat.row row [] h.seated.is_row in
    let stands = subst (λ (members : List ℕ). slice_get members p ≡ Some b) read (is.some b refl).0 in
    let long = h.seated.table.long in
    let same = ap (λ (c : Crossing). length c.sights) h.same in
    let below = neighbour_within crossing.sights seat.place (place - seat.first) next.j next.at in
    known_at core n b p next.j seat crossing second h sound stands (omega (arith, long, same, below)) next.made old

-- a place that is known is one of the table
pub known_within : (core : Core) (n : ℕ) (seat : Seat) (crossing : Crossing) (a p : ℕ) → IsThere core n seat crossing → IsPlaceOf core seat.row a p → p < length crossing.sights
known_within core n seat crossing a p h own =
    let row = h.seated.row in
    let read = get_or_from_slice_get (row_list core.rows) seat.row row [] h.seated.is_row in
    let within = slice_get_within row p a (subst (λ (members : List ℕ). slice_get members p ≡ Some a) read own) in
    let long = h.seated.table.long in
    let same = ap (λ (c : Crossing). length c.sights) h.same in
    omega (arith, within, long, same)

pub place_known : (core : Core) (n : ℕ) (seat : Seat) (crossing : Crossing) (known at : Option ℕ) → IsThere core n seat crossing → IsKnownPlace core seat.row known at → IfSome at (λ p. p < length crossing.sights)
place_known core n seat crossing None at h is = subst (λ (o : Option ℕ). IfSome o (λ p. p < length crossing.sights)) (sym (is.none refl)) _
place_known core n seat crossing (Some a) None h is = _
place_known core n seat crossing (Some a) (Some p) h is = known_within core n seat crossing a p h (is.some a refl).0

-- the place at which one looks for what is new
abbrev pub start_of : ℕ → Seat → ℕ
start_of from seat = max from seat.first - seat.first

passed_here : (core : Core) (n from first place : ℕ) (seat : Seat) (crossing : Crossing) (known at found : Option ℕ) (second : Link) → IsSoundCore core → IsThere core n seat crossing → IsKnownPlace core seat.row known at
    → slice_get (neighbours crossing.sights seat.place) (start_of from seat) ≡ Some first → found ≡ slice_get (new_neighbours crossing.sights seat.place at first) 0
    → from ≤ place → seat.first ≤ place → place < seat.first + others_in core seat.row seat.place → place < seat.first + count_to (joins crossing.sights seat.place) (end_of (length crossing.sights) found)
    → slice_get (links_out (network_in core) n) place ≡ Some second → IsKnown (network_in core) known second
passed_here core n from first place seat crossing known at found second sound h is begins finds behind front within before stands =
    let next = neighbour_of core n place seat crossing second h sound front within stands in
    let number = number_is crossing.sights seat.place (start_of from seat) first begins in
    old_known core n place seat crossing known at second h sound is next
    (old_neighbour crossing.sights seat.place at first found (place - seat.first) next.j finds next.at (omega (arith, number, behind, front)) (omega (arith, front, before)))

-- where nothing new is found
pub passed_all : (core : Core) (n from first : ℕ) (seat : Seat) (crossing : Crossing) (known at : Option ℕ) → IsSoundCore core → IsThere core n seat crossing → IsKnownPlace core seat.row known at
    → slice_get (neighbours crossing.sights seat.place) (start_of from seat) ≡ Some first → None ≡ slice_get (new_neighbours crossing.sights seat.place at first) 0 → AreKnown (network_in core) n (stretch_of core seat) known from None
passed_all core n from first seat crossing known at sound h is begins finds = λ place second behind within stands.
    let front : (seat.first ≤ place) × (place < seat.first + others_in core seat.row seat.place) = subst (λ (t : Stretch). IsInFront t None place) (stretch_known core seat crossing h.unit) within in
    let many = h.many in
    let before : place < seat.first + count_to (joins crossing.sights seat.place) (length crossing.sights) = omega (arith, front, many) in
    passed_here core n from first place seat crossing known at None second sound h is begins finds behind front.0 front.1 before stands

-- where one looks behind the last of the links
pub passed_none : (core : Core) (n from : ℕ) (seat : Seat) (crossing : Crossing) (known : Option ℕ) → IsThere core n seat crossing → slice_get (neighbours crossing.sights seat.place) (start_of from seat) ≡ None
    → AreKnown (network_in core) n (stretch_of core seat) known from None
passed_none core n from seat crossing known h none = λ place second behind within stands.
    let front : (seat.first ≤ place) × (place < seat.first + others_in core seat.row seat.place) = subst (λ (t : Stretch). IsInFront t None place) (stretch_known core seat crossing h.unit) within in
    let many = h.many in
    let item = at_place (neighbours crossing.sights seat.place) (start_of from seat) (omega (arith, front, many, behind)) in
    absurd (let no : None ≡ Some item.0 = sym none ∙ item.1 in cc)

-- where any two members are joined all are known from each
whole_known : (core : Core) (n from : ℕ) (seat : Seat) (crossing : Crossing) (a : ℕ) → IsSoundCore core → IsThere core n seat crossing → IsWhole crossing.sights → HasSeatIn core seat.row a → AreKnown (network_in core) n (stretch_of core seat) (Some a) from None
whole_known core n from seat crossing a sound h whole has = λ place second behind within stands.
    let front : (seat.first ≤ place) × (place < seat.first + others_in core seat.row seat.place) = subst (λ (t : Stretch). IsInFront t None place) (stretch_known core seat crossing h.unit) within in
    let next = neighbour_of core n place seat crossing second h sound front.0 front.1 stands in
    let own = place_of_seat core a seat.row has.1 sound has.2 has.3 in
    let is : IsKnownPlace core seat.row (Some a) (Some has.1.place) = record {
      none = λ no. absurd (let none : Some a ≡ None = no in cc);
      some = λ b e. (subst (λ (m : ℕ). IsPlaceOf core seat.row m has.1.place) (same_Some a b e) own, refl);
    } in
    old_known core n place seat crossing (Some a) (Some has.1.place) second h sound is next
    (whole_old crossing.sights has.1.place next.j whole (known_within core n seat crossing a has.1.place h own) (neighbour_within crossing.sights seat.place (place - seat.first) next.j next.at))

pub passed_whole : (core : Core) (n from : ℕ) (seat : Seat) (crossing : Crossing) (known : Option ℕ) → IsSoundCore core → IsThere core n seat crossing → IsWhole crossing.sights → is_some known ≡ true → IfSome known (HasSeatIn core seat.row)
    → AreKnown (network_in core) n (stretch_of core seat) known from None
passed_whole core n from seat crossing None sound h whole some has = absurd (true≢false (sym some))
passed_whole core n from seat crossing (Some a) sound h whole some has = whole_known core n from seat crossing a sound h whole has

-- ---- what is found

-- the number of the one that is found among the links of the seat
record IsRanked (core : Core) (n from found rank : ℕ) (seat : Seat) (crossing : Crossing) : Type 0 where
  counts : rank ≡ count_to (joins crossing.sights seat.place) found
  at : slice_get (neighbours crossing.sights seat.place) rank ≡ Some found
  behind : start_of from seat ≤ rank
  within : rank < others_in core seat.row seat.place

ranked : (core : Core) (n from first found rank : ℕ) (seat : Seat) (crossing : Crossing) (at : Option ℕ) → IsThere core n seat crossing → slice_get (neighbours crossing.sights seat.place) (start_of from seat) ≡ Some first
    → Some found ≡ slice_get (new_neighbours crossing.sights seat.place at first) 0 → rank ≡ length (filter (λ b. nat_lt b found) (neighbours crossing.sights seat.place)) → IsRanked core n from found rank seat crossing
ranked core n from first found rank seat crossing at h begins finds is =
    let table = crossing.sights in
    let new = found_is table seat.place at first found finds in
    let counts = is ∙ rank_is table seat.place found new.below in
    let stands = subst (λ (k : ℕ). slice_get (neighbours table seat.place) k ≡ Some found) (sym counts) (ranked_at table seat.place found new.below new.joined) in
    let number = number_is table seat.place (start_of from seat) first begins in
    let rise = count_rises (joins table seat.place) first found (leb-true first found new.behind) in
    let within = slice_get_within (neighbours table seat.place) rank found stands in
    let many = h.many in
    record { counts = counts; at = stands; behind = omega (arith, number, rise, counts); within = omega (arith, within, many) }

pub found_within : (table : List (List Bool)) (i : ℕ) (known : Option ℕ) (from found : ℕ) → Some found ≡ slice_get (new_neighbours table i known from) 0 → found < length table
found_within table i known from found finds = (found_is table i known from found finds).below

leads : (core : Core) (n from found rank : ℕ) (seat : Seat) (crossing : Crossing) (h : IsThere core n seat crossing) → IsSoundCore core → Contains (seats_at core n) seat → IsRanked core n from found rank seat crossing
    → slice_get (links_out (network_in core) n) (seat.first + rank) ≡ Some (link_across core crossing n (get_or h.seated.row found 0))
leads core n from found rank seat crossing h sound member is =
    lead_across core n (seat.first + rank) rank seat (link_across core crossing n (get_or h.seated.row found 0)) sound member refl is.within
    (across_lead core n seat.row seat.place rank found crossing h.seated.row h.seated h.unit h.seated.is_row is.within is.at)

-- its place among the links of the node is one of few
pub found_few : (core : Core) (n from first found rank : ℕ) (seat : Seat) (crossing : Crossing) (at : Option ℕ) → IsSoundCore core → Contains (seats_at core n) seat → IsThere core n seat crossing
    → slice_get (neighbours crossing.sights seat.place) (start_of from seat) ≡ Some first → Some found ≡ slice_get (new_neighbours crossing.sights seat.place at first) 0
    → rank ≡ length (filter (λ b. nat_lt b found) (neighbours crossing.sights seat.place)) → seat.first + rank < 32800000
found_few core n from first found rank seat crossing at sound member h begins finds is =
    let here = leads core n from found rank seat crossing h sound member (ranked core n from first found rank seat crossing at h begins finds is) in
    let within = slice_get_within (links_out (network_in core) n) (seat.first + rank) _ here in
    let few = out_few core n sound in
    omega (arith, within, few)

pub seat_new : (core : Core) (n from first found rank : ℕ) (seat : Seat) (crossing : Crossing) (row : List ℕ) (at : Option ℕ) → IsSoundCore core → Contains (seats_at core n) seat → IsThere core n seat crossing → slice_get (row_list core.rows) seat.row ≡ Some row
    → slice_get (neighbours crossing.sights seat.place) (start_of from seat) ≡ Some first → Some found ≡ slice_get (new_neighbours crossing.sights seat.place at first) 0
    → rank ≡ length (filter (λ b. nat_lt b found) (neighbours crossing.sights seat.place)) → IsNewIn (network_in core) n (stretch_of core seat) from (record { place = seat.first + rank; to = get_or row found 0 })
seat_new core n from first found rank seat crossing row at sound member h there begins finds is =
    let counted = ranked core n from first found rank seat crossing at h begins finds is in
    let here = leads core n from found rank seat crossing h sound member counted in
    let behind = counted.behind in
    let within = counted.within in
    let same = same_Some h.seated.row row (sym h.seated.is_row ∙ there) in
    subst (λ (t : Stretch). IsNewIn (network_in core) n t from (record { place = seat.first + rank; to = get_or row found 0 })) (sym (stretch_known core seat crossing h.unit)) (record {
      behind = omega (arith, behind);
      first = omega arith;
      within = omega (arith, within);
      end = λ link stands. ap (λ (l : Link). l.to) (same_Some link (link_across core crossing n (get_or h.seated.row found 0)) (sym stands ∙ here)) ∙ ap (λ (members : List ℕ). get_or members found 0) same;
    })

-- in front of it all are known
pub passed_found : (core : Core) (n from first found rank : ℕ) (seat : Seat) (crossing : Crossing) (known at : Option ℕ) (to : ℕ) → IsSoundCore core → IsThere core n seat crossing → IsKnownPlace core seat.row known at
    → slice_get (neighbours crossing.sights seat.place) (start_of from seat) ≡ Some first → Some found ≡ slice_get (new_neighbours crossing.sights seat.place at first) 0
    → rank ≡ length (filter (λ b. nat_lt b found) (neighbours crossing.sights seat.place)) → AreKnown (network_in core) n (stretch_of core seat) known from (Some (record { place = seat.first + rank; to = to }))
passed_found core n from first found rank seat crossing known at to sound h is begins finds ranks = λ place second behind within stands.
    let front : (seat.first ≤ place) × (place < seat.first + rank) = subst (λ (t : Stretch). IsInFront t (Some (record { place = seat.first + rank; to = to })) place) (stretch_known core seat crossing h.unit) within in
    let counted = ranked core n from first found rank seat crossing at h begins finds ranks in
    let counts = counted.counts in
    let few = counted.within in
    passed_here core n from first place seat crossing known at (Some found) second sound h is begins finds behind front.0 (omega (arith, front, few)) (omega (arith, front, counts)) stands

-- ---- the links by relationships

-- no node has one of them across a unit
pub rest_known : (given : Network) (n from : ℕ) (stretch : Stretch) (known : Option ℕ) (result : Option NewLink) → HasLinkAcross given Between known → AreKnown given n stretch None from result → AreKnown given n stretch known from result
rest_known given n from stretch None result has h = h
rest_known given n from stretch (Some a) result has h = absurd has

pub rest_new : (core : Core) (n from at : ℕ) (link : Link) → IsSoundCore core → at ≡ max from (across_count core n) → at - across_count core n < length (leaving_at core n) → slice_get (passages_out core n) (at - across_count core n) ≡ Some link
    → IsNewIn (network_in core) n (rest_of core n) from (record { place = at; to = link.to })
rest_new core n from at link sound e below leads =
    let lead = lead_passage core n at (at - across_count core n) link sound (omega (arith, e)) leads in
    record {
      behind = omega (arith, e);
      first = omega (arith, e);
      within = omega (arith, e, below);
      end = λ other stands. ap (λ (l : Link). l.to) (same_Some other link (sym stands ∙ lead));
    }

-- ---- a link that was found is there

follow_reach : (at end : ℕ) (list : List Stretch) → Follow at end list → at ≤ end
follow_reach at end [] h = let e : at ≡ end = h in omega (arith, e)
follow_reach at end (s ∷ list) h = let rest = follow_reach (at + s.count) end list h.1 in omega (arith, rest)

follow_within : (at end : ℕ) (list : List Stretch) (k : ℕ) (stretch : Stretch) → Follow at end list → slice_get list k ≡ Some stretch → stretch.first + stretch.count ≤ end
follow_within at end [] k stretch h there = absurd (let no : None ≡ Some stretch = there in cc)
follow_within at end (s ∷ list) zero stretch h there =
    let first : s.first ≡ at = h.0 in
    let rest = follow_reach (at + s.count) end list h.1 in
    subst (λ (t : Stretch). t.first + t.count ≤ end) (same_Some s stretch there) (omega (arith, first, rest))
follow_within at end (s ∷ list) (suc k) stretch h there = follow_within (at + s.count) end list k stretch h.1 there

-- the link that was found
pub record IsFound (core : Core) (n : ℕ) (found : NewLink) : Type 0 where
  pub link : Link
  pub stands : slice_get (links_out (network_in core) n) found.place ≡ Some link
  pub end : link.to ≡ found.to
  pub node : found.to < length (node_list core.nodes)

pub found_there : (core : Core) (n k : ℕ) (found : NewLink) → IsSoundCore core → k < length ((network_in core).stretches n)
    → ((stretch : Stretch) → slice_get ((network_in core).stretches n) k ≡ Some stretch → IsNewIn (network_in core) n stretch 0 found) → IsFound core n found
found_there core n k found sound within new =
    let stretch = at_place ((network_in core).stretches n) k within in
    let is = new stretch.0 stretch.1 in
    let upto = is.within in
    let cover = follow_within 0 (length (links_out (network_in core) n)) ((network_in core).stretches n) k stretch.0 (are_stretches core n sound).cover stretch.1 in
    let link = at_place (links_out (network_in core) n) found.place (omega (arith, upto, cover)) in
    let to = is.end link.0 link.1 in
    let node = (out_ends core n found.place link.0 sound link.1).to in
    record { link = link.0; stands = link.1; end = to; node = subst (λ (m : ℕ). m < length (node_list core.nodes)) to node }

-- ---- where it is lower

lower_at : (least : List ℕ) (base entry to : ℕ) (link : Link) (result : Option Link) → link.to ≡ to → entry ≡ get_or least to 0 → result ≡ lower_than entry base link → result ≡ lower_of least base link
lower_at least base entry to link result e read is = is ∙ ap (λ (m : ℕ). lower_than m base link) (read ∙ ap (λ (m : ℕ). get_or least m 0) (sym e))

-- across the unit of a seat
pub lower_seat : (core : Core) (n base entry : ℕ) (seat : Seat) (crossing : Crossing) (found : NewLink) (least : List ℕ) (link : Link) (result : Option Link) → IsSoundCore core → Contains (seats_at core n) seat
    → slice_get core.crossings.items seat.row ≡ Some crossing → IsNewIn (network_in core) n (stretch_of core seat) 0 found → slice_get (links_out (network_in core) n) found.place ≡ Some link → entry ≡ get_or least found.to 0
    → result ≡ lower_than entry base (link_across core crossing n found.to) → result ≡ lower_of least base link
lower_seat core n base entry seat crossing found least link result sound h unit new stands read is =
    let there = seat_there core n seat crossing sound h unit in
    let same = stretch_known core seat crossing unit in
    let front : (seat.first ≤ found.place) × (found.place < seat.first + others_in core seat.row seat.place) = subst (λ (t : Stretch). (t.first ≤ found.place) × (found.place < t.first + t.count)) same (new.first, new.within) in
    let made = row_made core n seat.row crossing there.seated.row (found.place - seat.first) link unit there.seated.is_row (seat_link core n found.place there.i seat link sound there.stands front.0 front.1 stands) in
    let e = new.end link stands in
    let whole = ap (λ (m : ℕ). link_across core crossing n m) (sym e) ∙ made in
    lower_at least base entry found.to link result e read (is ∙ ap (λ (l : Link). lower_than entry base l) whole)

-- by a relationship
pub lower_rest : (core : Core) (n base entry : ℕ) (passage : Link) (found : NewLink) (least : List ℕ) (link : Link) (result : Option Link) → IsSoundCore core
    → IsNewIn (network_in core) n (rest_of core n) 0 found → slice_get (links_out (network_in core) n) found.place ≡ Some link → entry ≡ get_or least found.to 0
    → slice_get (passages_out core n) (found.place - across_count core n) ≡ Some passage → result ≡ lower_than entry base passage → result ≡ lower_of least base link
lower_rest core n base entry passage found least link result sound new stands read leads is =
    let there = rest_link core n found.place link sound new.first stands in
    lower_at least base entry found.to link result (new.end link stands) read (is ∙ ap (λ (l : Link). lower_than entry base l) (same_Some passage link (sym leads ∙ there)))
