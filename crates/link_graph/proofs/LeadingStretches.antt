-- The stretches of a node cover its links.
use Rattle.std.proofs.Common.{◌≡◌, ℕ, ◌+◌, ◌-◌, ◌<◌, ◌≤◌, zero, suc, Bool, cond, List, [], ◌∷◌, ◌++◌, Option, Some, None, length, map, refl, sym, ap, ◌∙◌, subst, arith, inl, inr, length-append}
use Rattle.std.specs.Prelude.{slice_get, filter, Contains, sum_by}
use Rattle.std.proofs.lemmas.Bool.{cases_lt}
use Rattle.std.proofs.lemmas.List.{length-map}
use Rattle.std.proofs.lemmas.List.Elements.{All-contains, Contains-append_cases}
use Rattle.std.proofs.lemmas.List.Sums.{sum_by-cons}
use Rattle.std.proofs.lemmas.Option.{same_Some, none-some, slice_get_within}
use Rattle.rule_reports.proofs.Members.{Contains-only, Contains-first, Contains-later}
use Rattle.venue_types.specs.declared.link.Link.{Link}
use Rattle.venue_nodes.specs.Rows.{row_list}
use Rattle.venue_nodes.proofs.Items.{member_at, at_member, at_map}
use Rattle.venue_nodes.proofs.Spread.{from_map}
use Rattle.link_graph.specs.declared.parts.Core.{Core}
use Rattle.link_graph.specs.declared.parts.Crossing.{Crossing}
use Rattle.link_graph.specs.declared.parts.Seat.{Seat}
use Rattle.link_graph.specs.declared.stretches.Stretch.{Stretch}
use Rattle.link_graph.specs.declared.stretches.Way.TheVariants.{Inside, Between}
use Rattle.link_graph.specs.Cores.{IsSoundCore, IsCrossing, IsPassage, network_in, barred_in, link_across, links_across_from, others_in, seats_at, leaving_at, across_count, stretch_of, stretches_in, joined_in}
use Rattle.link_graph.specs.Networks.{AreStretches, Follow, GoesBy, IsSome, links_out}
use Rattle.link_graph.specs.Leads.{starts_at, links_of_row, links_of_seats, passages_out, AreSeats}
use Rattle.link_graph.proofs.Items.{from_then, from_filter}
use Rattle.link_graph.proofs.LeadingLists.{at_left, at_right, at_place}
use Rattle.link_graph.proofs.LeadingRows.{row_known}
use Rattle.link_graph.proofs.LeadingSeats.{seat_seated, node_seats, links_out_are}
use Rattle.link_graph.proofs.LeadingPlaces.{in_seat, across_long, node_counted, out_long}
use Rattle.link_graph.proofs.LeadingEnds.{parts_few}

-- ---- seats as stretches

abbrev stretch_by : Core → Seat → Crossing → Stretch
stretch_by core seat crossing = record { way = Inside crossing.via crossing.kind (barred_in core crossing.via); first = seat.first; count = others_in core seat.row seat.place }

abbrev pub between : Core → ℕ → Stretch
between core n = record { way = Between; first = across_count core n; count = length (leaving_at core n) }

pub stretch_known : (core : Core) (seat : Seat) (crossing : Crossing) → slice_get core.crossings.items seat.row ≡ Some crossing → stretch_of core seat ≡ stretch_by core seat crossing
stretch_known core seat crossing here =
    ap (λ (found : Option Crossing). let s : Stretch = elim found [
      | None ↦ record { way = Between; first = seat.first; count = 0 }
      | Some c ↦ record { way = Inside c.via c.kind (barred_in core c.via); first = seat.first; count = others_in core seat.row seat.place }
    ] in s) here

pub stretch_parts : (core : Core) (seat : Seat) (crossing : Crossing) (barred : Bool) (count : ℕ) → barred ≡ barred_in core crossing.via → count ≡ others_in core seat.row seat.place
    → ◌≡◌ {A = Stretch} (record { way = Inside crossing.via crossing.kind barred; first = seat.first; count = count }) (stretch_by core seat crossing)
stretch_parts core seat crossing barred count e f = rw (e, f) refl

pub crossing_within : (core : Core) (n : ℕ) (seat : Seat) → IsSoundCore core → Contains (seats_at core n) seat → seat.row < length core.crossings.items
crossing_within core n seat sound h = let at = seat_seated core n seat sound h in slice_get_within core.crossings.items seat.row at.crossing at.is_crossing

-- ---- by number

pub stretch_inside : (core : Core) (n k : ℕ) (seat : Seat) → slice_get (seats_at core n) k ≡ Some seat → slice_get (stretches_in core n) k ≡ Some (stretch_of core seat)
unfolding stretches_in
stretch_inside core n k seat there =
    let within = slice_get_within (seats_at core n) k seat there in
    let long = length-map (seats_at core n) (stretch_of core) in
    at_left (map (stretch_of core) (seats_at core n)) (between core n ∷ []) k (omega (arith, within, long)) ∙ at_map (stretch_of core) (seats_at core n) k seat there

pub stretches_long : (core : Core) (n : ℕ) → length (stretches_in core n) ≡ length (seats_at core n) + 1
unfolding stretches_in
stretches_long core n =
    let long = length-map (seats_at core n) (stretch_of core) in
    let both = length-append (map (stretch_of core) (seats_at core n)) (between core n ∷ []) in
    omega (arith, long, both)

pub stretch_between : (core : Core) (n k : ℕ) → length (seats_at core n) ≤ k → k < length (stretches_in core n) → slice_get (stretches_in core n) k ≡ Some (between core n)
unfolding stretches_in
stretch_between core n k from within =
    let long = length-map (seats_at core n) (stretch_of core) in
    let all = stretches_long core n in
    at_right (map (stretch_of core) (seats_at core n)) (between core n ∷ []) k 0 (omega (arith, long, all, from, within))

-- the stretch behind the last seat
pub stretch_rest : (core : Core) (n k first count : ℕ) → slice_get (seats_at core n) k ≡ None → k < length (stretches_in core n) → first ≡ across_count core n → count ≡ length (leaving_at core n)
    → slice_get (stretches_in core n) k ≡ Some (record { way = Between; first = first; count = count })
stretch_rest core n k first count nowhere within e f = elim (cases_lt k (length (seats_at core n))) [
  | inl before ↦ let at = at_place (seats_at core n) k before in absurd (none-some at.0 (sym nowhere ∙ at.1))
  | inr from ↦ stretch_between core n k from within ∙ (rw (e, f) refl)
]

-- a node has few seats: each has a link
seats_few : (core : Core) (at : ℕ) (seats : List Seat) → AreSeats core at seats → length seats ≤ sum_by (λ (seat : Seat). others_in core seat.row seat.place) seats
seats_few core at [] h = omega arith
seats_few core at (s ∷ seats) h =
    let rest = seats_few core (at + others_in core s.row s.place) seats h.2 in
    let some : 0 < others_in core s.row s.place = h.1 in
    let sum = sum_by-cons (λ (seat : Seat). others_in core seat.row seat.place) s seats in
    omega (arith, rest, some, sum)

pub node_few : (core : Core) (n : ℕ) → IsSoundCore core → length (seats_at core n) ≤ 32800000
node_few core n sound =
    let few = seats_few core 0 (seats_at core n) (node_seats core n sound) in
    let parts = parts_few core n sound in
    omega (arith, few, parts)

-- ---- they cover

follow_seats : (core : Core) (at : ℕ) (seats : List Seat) (last : Stretch) (end : ℕ) → AreSeats core at seats → ((seat : Seat) → Contains seats seat → (crossing : Crossing) × (slice_get core.crossings.items seat.row ≡ Some crossing))
    → last.first ≡ at + sum_by (λ (seat : Seat). others_in core seat.row seat.place) seats → last.first + last.count ≡ end → Follow at end (map (stretch_of core) seats ++ last ∷ [])
follow_seats core at [] last end h known first long =
    let begins : last.first ≡ at = omega (arith, first) in
    (begins, let ends : at + last.count ≡ end = omega (arith, begins, long) in ends)
follow_seats core at (s ∷ seats) last end h known first long =
    let crossing = known s (Contains-first s seats) in
    let is = stretch_known core s crossing.0 crossing.1 in
    let begins : s.first ≡ at = h.0 in
    let sum = sum_by-cons (λ (seat : Seat). others_in core seat.row seat.place) s seats in
    let rest = follow_seats core (at + others_in core s.row s.place) seats last end h.2 (λ seat i. known seat (Contains-later s seats seat i)) (omega (arith, first, sum)) long in
    subst (λ (t : Stretch). (t.first ≡ at) × Follow (at + t.count) end (map (stretch_of core) seats ++ last ∷ [])) (sym is) (begins, rest)

seat_crossing : (core : Core) (n : ℕ) (seat : Seat) → IsSoundCore core → Contains (seats_at core n) seat → (crossing : Crossing) × (slice_get core.crossings.items seat.row ≡ Some crossing)
seat_crossing core n seat sound h = let at = seat_seated core n seat sound h in (at.crossing, at.is_crossing)

covers : (core : Core) (n : ℕ) → IsSoundCore core → Follow 0 (length (links_out (network_in core) n)) (stretches_in core n)
unfolding stretches_in
covers core n sound =
    follow_seats core 0 (seats_at core n) (between core n) (length (links_out (network_in core) n)) (node_seats core n sound) (λ seat i. seat_crossing core n seat sound i)
    (omega arith)
    (sym (out_long core n sound))

-- ---- each goes its way

-- the stretch is that of a seat, or the last
data IsSort (core : Core) (n : ℕ) (stretch : Stretch) : Type 0 where
  of_seat : (i : ℕ) (seat : Seat) (crossing : Crossing) → slice_get (seats_at core n) i ≡ Some seat → slice_get core.crossings.items seat.row ≡ Some crossing → stretch_by core seat crossing ≡ stretch → IsSort core n stretch
  of_rest : between core n ≡ stretch → IsSort core n stretch

sort_of : (core : Core) (n : ℕ) (stretch : Stretch) → IsSoundCore core → Contains (stretches_in core n) stretch → IsSort core n stretch
unfolding stretches_in
sort_of core n stretch sound h = elim (Contains-append_cases (map (stretch_of core) (seats_at core n)) (between core n ∷ []) stretch h) [
  | inl here ↦
      let from = from_map (stretch_of core) (seats_at core n) stretch here in
      let crossing = seat_crossing core n from.0 sound from.1 in
      let at = at_member (seats_at core n) from.0 from.1 in
      of_seat at.0 from.0 crossing.0 at.1 crossing.1 (sym (stretch_known core from.0 crossing.0 crossing.1) ∙ from.2)
  | inr there ↦ of_rest (Contains-only (between core n) stretch there)
]

pub seat_some : (core : Core) (at : ℕ) (seats : List Seat) (i : ℕ) (seat : Seat) → AreSeats core at seats → slice_get seats i ≡ Some seat → 0 < others_in core seat.row seat.place
seat_some core at [] i seat h there = absurd (let no : None ≡ Some seat = there in cc)
seat_some core at (s ∷ seats) zero seat h there = subst (λ (t : Seat). 0 < others_in core t.row t.place) (same_Some s seat there) h.1
seat_some core at (s ∷ seats) (suc i) seat h there = seat_some core (at + others_in core s.row s.place) seats i seat h.2 there

some_of : (core : Core) (n : ℕ) (stretch : Stretch) → IsSoundCore core → IsSort core n stretch → IsSome stretch.way stretch.count
some_of core n stretch sound (of_seat i seat crossing there here is) = subst (λ (t : Stretch). IsSome t.way t.count) is (seat_some core 0 (seats_at core n) i seat (node_seats core n sound) there)
some_of core n stretch sound (of_rest is) = subst (λ (t : Stretch). IsSome t.way t.count) is tt

-- a link across the unit of a row is made for its end
pub row_made : (core : Core) (n w : ℕ) (crossing : Crossing) (row : List ℕ) (k : ℕ) (link : Link) → slice_get core.crossings.items w ≡ Some crossing → slice_get (row_list core.rows) w ≡ Some row → slice_get (links_of_row core n w) k ≡ Some link
    → link_across core crossing n link.to ≡ link
row_made core n w crossing row k link here there at =
    let some = from_then crossing.walked (links_across_from core crossing row n) link (member_at (cond crossing.walked (links_across_from core crossing row n) []) k link (ap (λ (ls : List Link). slice_get ls k) (sym (row_known core n w crossing row here there)) ∙ at)) in
    let made = from_map (link_across core crossing n) (filter (joined_in crossing row n) row) link some.1 in
    subst (λ (b : ℕ). link_across core crossing n b ≡ link) (ap (λ (l : Link). l.to) made.2) made.2

-- one of the places of a seat is one of its row
pub seat_link : (core : Core) (n place i : ℕ) (seat : Seat) (link : Link) → IsSoundCore core → slice_get (seats_at core n) i ≡ Some seat → seat.first ≤ place → place < seat.first + others_in core seat.row seat.place
    → slice_get (links_out (network_in core) n) place ≡ Some link → slice_get (links_of_row core n seat.row) (place - seat.first) ≡ Some link
seat_link core n place i seat link sound there from to at =
    let seats = seats_at core n in
    let count = node_counted core n sound seat (member_at seats i seat there) in
    let found = in_seat core n 0 seats i seat (place - seat.first) place (node_seats core n sound) (node_counted core n sound) there (omega (arith, from, to)) (omega (arith, from)) in
    let item = at_place (links_of_row core n seat.row) (place - seat.first) (omega (arith, from, to, count)) in
    let known = found ∙ item.1 in
    let whole = ap (λ (ls : List Link). slice_get ls place) (links_out_are core n sound) ∙ at_left (links_of_seats core n seats) (passages_out core n) place (slice_get_within (links_of_seats core n seats) place item.0 known) ∙ known in
    let same : link ≡ item.0 = same_Some link item.0 (sym at ∙ whole) in
    item.1 ∙ ap (λ (l : Link). Some l) (sym same)

seat_way : (core : Core) (n place i : ℕ) (seat : Seat) (crossing : Crossing) (link : Link) → IsSoundCore core → slice_get (seats_at core n) i ≡ Some seat → slice_get core.crossings.items seat.row ≡ Some crossing
    → seat.first ≤ place → place < seat.first + others_in core seat.row seat.place → slice_get (links_out (network_in core) n) place ≡ Some link
    → GoesBy (network_in core) (Inside crossing.via crossing.kind (barred_in core crossing.via)) link
unfolding network_in
seat_way core n place i seat crossing link sound there here from to at =
    let seated = seat_seated core n seat sound (member_at (seats_at core n) i seat there) in
    let made = row_made core n seat.row crossing seated.row (place - seat.first) link here seated.is_row (seat_link core n place i seat link sound there from to at) in
    let kept = All-contains (IsCrossing core) core.crossings.items crossing sound.crossings (member_at core.crossings.items seat.row crossing here) in
    (sym (ap (λ (l : Link). l.via) made), sym (ap (λ (l : Link). l.kind) made), refl, kept.unit)

-- behind the last seat are those by relationships
pub rest_link : (core : Core) (n place : ℕ) (link : Link) → IsSoundCore core → across_count core n ≤ place → slice_get (links_out (network_in core) n) place ≡ Some link → slice_get (passages_out core n) (place - across_count core n) ≡ Some link
rest_link core n place link sound from at =
    let across = across_long core n sound in
    sym (ap (λ (ls : List Link). slice_get ls place) (links_out_are core n sound) ∙ at_right (links_of_seats core n (seats_at core n)) (passages_out core n) place (place - across_count core n) (omega (arith, from, across))) ∙ at

rest_way : (core : Core) (n place : ℕ) (link : Link) → IsSoundCore core → across_count core n ≤ place → slice_get (links_out (network_in core) n) place ≡ Some link → GoesBy (network_in core) Between link
unfolding network_in passages_out
rest_way core n place link sound from at =
    let passage = from_filter (starts_at n) core.passages.items link (member_at (passages_out core n) (place - across_count core n) link (rest_link core n place link sound from at)) in
    let kept = All-contains (IsPassage core) core.passages.items link sound.passages passage.0 in
    kept.via

goes_of : (core : Core) (n place : ℕ) (stretch : Stretch) (link : Link) → IsSoundCore core → IsSort core n stretch → stretch.first ≤ place → place < stretch.first + stretch.count → slice_get (links_out (network_in core) n) place ≡ Some link
    → GoesBy (network_in core) stretch.way link
goes_of core n place stretch link sound (of_seat i seat crossing there here is) from to at =
    let first : seat.first ≡ stretch.first = ap (λ (t : Stretch). t.first) is in
    let count : others_in core seat.row seat.place ≡ stretch.count = ap (λ (t : Stretch). t.count) is in
    subst (λ (t : Stretch). GoesBy (network_in core) t.way link) is (seat_way core n place i seat crossing link sound there here (omega (arith, first, from)) (omega (arith, first, count, to)) at)
goes_of core n place stretch link sound (of_rest is) from to at =
    let first : across_count core n ≡ stretch.first = ap (λ (t : Stretch). t.first) is in
    subst (λ (t : Stretch). GoesBy (network_in core) t.way link) is (rest_way core n place link sound (omega (arith, first, from)) at)

pub are_stretches : (core : Core) (n : ℕ) → IsSoundCore core → AreStretches (network_in core) n
unfolding network_in
are_stretches core n sound = record {
  cover = covers core n sound;
  some = λ stretch h. some_of core n stretch sound (sort_of core n stretch sound h);
  of_way = λ stretch place link h from to at. goes_of core n place stretch link sound (sort_of core n stretch sound h) from to at;
}
