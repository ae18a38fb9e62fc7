-- The seats of a node: where its links across units lie.
use Rattle.std.proofs.Common.{◌≡◌, ℕ, ◌+◌, ◌<◌, ◌≤◌, suc, Bool, true, false, cond, eqb, ltb, List, [], ◌∷◌, ◌++◌, Option, Some, None, length, map, get_or, refl, sym, ap, ◌∙◌, subst, arith, inl, inr}
use Rattle.std.specs.Prelude.{slice_get, filter, Contains}
use Rattle.std.specs.List.{flat_map}
use Rattle.std.proofs.lemmas.Bool.{eqb-true, ltb-true, ltb-false}
use Rattle.std.proofs.lemmas.List.{length-map, nil_from_length}
use Rattle.std.proofs.lemmas.List.Elements.{filter-append, All-contains, Contains-append_cases}
use Rattle.std.proofs.lemmas.Option.{same_Some, slice_get_within}
use Rattle.rule_reports.proofs.Members.{Contains-nil, Contains-first, Contains-later, Contains-cons_cases}
use Rattle.unit_sight.specs.Tables.{neighbours}
use Rattle.venue_types.specs.declared.link.Link.{Link}
use Rattle.venue_nodes.specs.declared.members.Membership.{Membership}
use Rattle.venue_nodes.specs.Members.{places_where}
use Rattle.venue_nodes.specs.Rows.{row_list}
use Rattle.venue_nodes.specs.Standing.{standings}
use Rattle.venue_nodes.proofs.Items.{member_at, at_member}
use Rattle.venue_nodes.proofs.Places.{place_at}
use Rattle.venue_nodes.proofs.Spread.{from_map}
use Rattle.link_graph.specs.declared.parts.Core.{Core}
use Rattle.link_graph.specs.declared.parts.Crossing.{Crossing}
use Rattle.link_graph.specs.declared.parts.Seat.{Seat}
use Rattle.link_graph.specs.Cores.{IsSoundCore, IsRow, network_in, links_in, link_across, links_across_from, links_across_all, others_in, seats_from, seats_at, joined_in, IsTableOf}
use Rattle.link_graph.specs.Networks.{links_out}
use Rattle.link_graph.specs.Leads.{starts_at, links_of_row, links_of_seats, passages_out, AreSeats}
use Rattle.link_graph.proofs.LeadingLists.{at_place}
use Rattle.link_graph.proofs.LeadingRows.{row_known, across_memberships}
use Rattle.link_graph.proofs.TableRows.{joined_row}

-- ---- where a node stands

-- the node stands at the membership's place in the row of its number
pub record IsStanding (n w : ℕ) (rows : List (List ℕ)) (m : Membership) : Type 0 where
  pub k : ℕ
  pub row : List ℕ
  pub is : m.unit ≡ w + k
  pub there : slice_get rows k ≡ Some row
  pub stands : slice_get row m.place ≡ Some n

abbrev seated : ℕ → ℕ → Membership
seated w p = record { unit = w; place = p }

stands_here : (n w : ℕ) (row : List ℕ) (rows : List (List ℕ)) (m : Membership) → Contains (map (seated w) (places_where (λ x. eqb x n) 0 row)) m → IsStanding n w (row ∷ rows) m
stands_here n w row rows m h =
    let from = from_map (seated w) (places_where (λ x. eqb x n) 0 row) m h in
    let at = at_member (places_where (λ x. eqb x n) 0 row) from.0 from.1 in
    let place = place_at (λ x. eqb x n) 0 row at.0 from.0 at.1 in
    let same : place.x ≡ n = eqb-true place.x n place.passes in
    let unit : w ≡ m.unit = ap (λ (s : Membership). s.unit) from.2 in
    let where' : from.0 ≡ m.place = ap (λ (s : Membership). s.place) from.2 in
    let is : from.0 ≡ 0 + place.k = place.is in
    let same_place : place.k ≡ m.place = omega (arith, where', is) in
    record {
      k = 0;
      row = row;
      is = omega (arith, unit);
      there = refl;
      stands = subst (λ i. slice_get row i ≡ Some n) same_place (place.there ∙ ap (λ x. Some x) same);
    }

stands_later : (n w : ℕ) (row : List ℕ) (rows : List (List ℕ)) (m : Membership) → IsStanding n (w + 1) rows m → IsStanding n w (row ∷ rows) m
stands_later n w row rows m h = record { k = suc h.k; row = h.row; is = let is : m.unit ≡ w + 1 + h.k = h.is in omega (arith, is); there = h.there; stands = h.stands }

pub standing_at : (n w : ℕ) (rows : List (List ℕ)) (m : Membership) → Contains (standings n w rows) m → IsStanding n w rows m
standing_at n w [] m h = absurd (Contains-nil m h)
standing_at n w (row ∷ rows) m h = elim (Contains-append_cases (map (seated w) (places_where (λ x. eqb x n) 0 row)) (standings n (w + 1) rows) m h) [
  | inl here ↦ stands_here n w row rows m here
  | inr there ↦ stands_later n w row rows m (standing_at n (w + 1) rows m there)
]

-- ---- what is known of a row in which a node stands

-- the row of this number and its unit, the table of its places, and where the node stands in it
pub record IsSeated (core : Core) (n w place : ℕ) : Type 0 where
  pub crossing : Crossing
  pub row : List ℕ
  pub is_crossing : slice_get core.crossings.items w ≡ Some crossing
  pub is_row : slice_get (row_list core.rows) w ≡ Some row
  pub stands : slice_get row place ≡ Some n
  pub kept : IsRow core row
  pub table : IsTableOf crossing row

pub seated_at : (core : Core) (n : ℕ) (m : Membership) → IsSoundCore core → Contains (standings n 0 (row_list core.rows)) m → IsSeated core n m.unit m.place
seated_at core n m sound h =
    let standing = standing_at n 0 (row_list core.rows) m h in
    let is : m.unit ≡ 0 + standing.k = standing.is in
    let same : standing.k ≡ m.unit = omega (arith, is) in
    let there = subst (λ k. slice_get (row_list core.rows) k ≡ Some standing.row) same standing.there in
    let within = slice_get_within (row_list core.rows) m.unit standing.row there in
    let paired : length core.crossings.items ≡ length (row_list core.rows) = sound.paired in
    let crossing = at_place core.crossings.items m.unit (omega (arith, within, paired)) in
    let kept = All-contains (IsRow core) (row_list core.rows) standing.row sound.rows (member_at (row_list core.rows) m.unit standing.row there) in
    record {
      crossing = crossing.0;
      row = standing.row;
      is_crossing = crossing.1;
      is_row = there;
      stands = standing.stands;
      kept = kept;
      table = sound.tables m.unit crossing.0 standing.row crossing.1 there;
    }

-- ---- how many links

pub others_known : (core : Core) (w i : ℕ) (crossing : Crossing) → slice_get core.crossings.items w ≡ Some crossing → others_in core w i ≡ cond crossing.walked (length (neighbours crossing.sights i)) 0
others_known core w i crossing here = ap (λ (found : Option Crossing). elim found [ None ↦ 0 | Some c ↦ cond c.walked (length (neighbours c.sights i)) 0 ]) here

count_of : (b : Bool) (links : List Link) (k : ℕ) → length links ≡ k → length (cond b links []) ≡ cond b k 0
count_of true links k e = e
count_of false links k e = refl

pub row_count : (core : Core) (n w place : ℕ) → IsSeated core n w place → others_in core w place ≡ length (links_of_row core n w)
row_count core n w place h =
    let next = neighbours h.crossing.sights place in
    let many : length (links_across_from core h.crossing h.row n) ≡ length next =
    length-map (filter (joined_in h.crossing h.row n) h.row) (link_across core h.crossing n)
    ∙ ap length (joined_row h.crossing h.row place n h.kept.rise h.table h.stands)
    ∙ length-map next (λ j. get_or h.row j 0) in
    others_known core w place h.crossing h.is_crossing
    ∙ sym (count_of h.crossing.walked (links_across_from core h.crossing h.row n) (length next) many)
    ∙ sym (ap length (row_known core n w h.crossing h.row h.is_crossing h.is_row))

-- ---- the seats

abbrev seat_of : Membership → ℕ → Seat
seat_of m at = record { row = m.unit; place = m.place; first = at }

links_step : (core : Core) (n at c : ℕ) (m : Membership) (rest : List Link) (some none : List Seat) → c ≡ length (links_of_row core n m.unit) → rest ≡ links_of_seats core n some → rest ≡ links_of_seats core n none
    → (b : Bool) → ltb 0 c ≡ b → links_of_row core n m.unit ++ rest ≡ links_of_seats core n (cond b (seat_of m at ∷ some) none)
links_step core n at c m rest some none count e f true more = ap (λ (ls : List Link). links_of_row core n m.unit ++ ls) e
links_step core n at c m rest some none count e f false more =
    let zero' : c ≤ 0 = ltb-false 0 c more in
    let empty : links_of_row core n m.unit ≡ [] = nil_from_length (links_of_row core n m.unit) (omega (arith, zero', count)) in
    ap (λ (ls : List Link). ls ++ rest) empty ∙ f

seats_links : (core : Core) (n at : ℕ) (ms : List Membership) → ((m : Membership) → Contains ms m → others_in core m.unit m.place ≡ length (links_of_row core n m.unit))
    → flat_map (λ (m : Membership). links_of_row core n m.unit) ms ≡ links_of_seats core n (seats_from core at ms)
seats_links core n at [] h = refl
seats_links core n at (m ∷ ms) h =
    let later = λ (o : Membership) (i : Contains ms o). h o (Contains-later m ms o i) in
    links_step core n at (others_in core m.unit m.place) m (flat_map (λ (o : Membership). links_of_row core n o.unit) ms)
    (seats_from core (at + others_in core m.unit m.place) ms) (seats_from core at ms)
    (h m (Contains-first m ms))
    (seats_links core n (at + others_in core m.unit m.place) ms later)
    (seats_links core n at ms later)
    (ltb 0 (others_in core m.unit m.place)) refl

seats_step : (core : Core) (at : ℕ) (m : Membership) (some none : List Seat) → AreSeats core (at + others_in core m.unit m.place) some → AreSeats core at none
    → (b : Bool) → ltb 0 (others_in core m.unit m.place) ≡ b → AreSeats core at (cond b (seat_of m at ∷ some) none)
seats_step core at m some none h k true e = (refl, ltb-true 0 (others_in core m.unit m.place) e, h)
seats_step core at m some none h k false e = k

are_seats : (core : Core) (at : ℕ) (ms : List Membership) → AreSeats core at (seats_from core at ms)
are_seats core at [] = tt
are_seats core at (m ∷ ms) =
    seats_step core at m (seats_from core (at + others_in core m.unit m.place) ms) (seats_from core at ms)
    (are_seats core (at + others_in core m.unit m.place) ms) (are_seats core at ms) (ltb 0 (others_in core m.unit m.place)) refl

-- a seat is that of a membership
pub record IsSeatOf (ms : List Membership) (seat : Seat) : Type 0 where
  pub m : Membership
  pub there : Contains ms m
  pub row : seat.row ≡ m.unit
  pub place : seat.place ≡ m.place

seat_later : (m : Membership) (ms : List Membership) (seat : Seat) → IsSeatOf ms seat → IsSeatOf (m ∷ ms) seat
seat_later m ms seat h = record { m = h.m; there = Contains-later m ms h.m h.there; row = h.row; place = h.place }

seat_step : (m : Membership) (ms : List Membership) (at : ℕ) (some none : List Seat) (seat : Seat) → (Contains some seat → IsSeatOf ms seat) → (Contains none seat → IsSeatOf ms seat)
    → (b : Bool) → Contains (cond b (seat_of m at ∷ some) none) seat → IsSeatOf (m ∷ ms) seat
seat_step m ms at some none seat h k true i = elim (Contains-cons_cases (seat_of m at) some seat i) [
  | inl here ↦ record { m = m; there = Contains-first m ms; row = ap (λ (s : Seat). s.row) (sym here); place = ap (λ (s : Seat). s.place) (sym here) }
  | inr there ↦ seat_later m ms seat (h there)
]
seat_step m ms at some none seat h k false i = seat_later m ms seat (k i)

seat_from : (core : Core) (at : ℕ) (ms : List Membership) (seat : Seat) → Contains (seats_from core at ms) seat → IsSeatOf ms seat
seat_from core at [] seat h = absurd (Contains-nil seat h)
seat_from core at (m ∷ ms) seat h =
    seat_step m ms at (seats_from core (at + others_in core m.unit m.place) ms) (seats_from core at ms) seat
    (seat_from core (at + others_in core m.unit m.place) ms seat) (seat_from core at ms seat) (ltb 0 (others_in core m.unit m.place)) h

-- ---- of a node

pub node_seats : (core : Core) (n : ℕ) → IsSoundCore core → AreSeats core 0 (seats_at core n)
node_seats core n sound = subst (AreSeats core 0) (sym (sound.seated.seats_are n)) (are_seats core 0 (standings n 0 (row_list core.rows)))

pub seat_seated : (core : Core) (n : ℕ) (seat : Seat) → IsSoundCore core → Contains (seats_at core n) seat → IsSeated core n seat.row seat.place
seat_seated core n seat sound h =
    let of = seat_from core 0 (standings n 0 (row_list core.rows)) seat (subst (λ (ss : List Seat). Contains ss seat) (sound.seated.seats_are n) h) in
    let at = seated_at core n of.m sound of.there in
    subst (λ p. IsSeated core n seat.row p) (sym of.place) (subst (λ w. IsSeated core n w of.m.place) (sym of.row) at)

-- a seat's place is one of its row
pub seat_within : (core : Core) (n : ℕ) (seat : Seat) → IsSoundCore core → Contains (seats_at core n) seat → (members : List ℕ) → slice_get (row_list core.rows) seat.row ≡ Some members → seat.place < length members
seat_within core n seat sound h members there =
    let at = seat_seated core n seat sound h in
    subst (λ (row : List ℕ). seat.place < length row) (same_Some at.row members (sym at.is_row ∙ there)) (slice_get_within at.row seat.place n at.stands)

pub seat_count : (core : Core) (n : ℕ) (seat : Seat) → IsSoundCore core → Contains (seats_at core n) seat → others_in core seat.row seat.place ≡ length (links_of_row core n seat.row)
seat_count core n seat sound h = row_count core n seat.row seat.place (seat_seated core n seat sound h)

across_out : (core : Core) (n : ℕ) → IsSoundCore core → filter (starts_at n) (links_across_all core core.crossings.items (row_list core.rows)) ≡ links_of_seats core n (seats_at core n)
across_out core n sound =
    across_memberships core n sound
    ∙ seats_links core n 0 (standings n 0 (row_list core.rows)) (λ m i. let at = seated_at core n m sound i in row_count core n m.unit m.place at)
    ∙ ap (links_of_seats core n) (sym (sound.seated.seats_are n))

-- those of the seats, then those by relationships
pub links_out_are : (core : Core) (n : ℕ) → IsSoundCore core → links_out (network_in core) n ≡ links_of_seats core n (seats_at core n) ++ passages_out core n
unfolding network_in links_in passages_out
links_out_are core n sound =
    filter-append (starts_at n) (links_across_all core core.crossings.items (row_list core.rows)) core.passages.items
    ∙ ap (λ (ls : List Link). ls ++ filter (starts_at n) core.passages.items) (across_out core n sound)
