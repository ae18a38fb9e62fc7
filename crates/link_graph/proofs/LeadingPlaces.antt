-- Which link stands at a place among those out of a node.
use Rattle.std.proofs.Common.{◌≡◌, ℕ, ◌+◌, ◌-◌, ◌<◌, ◌≤◌, zero, suc, List, [], ◌∷◌, ◌++◌, Some, None, length, get_or, refl, sym, ap, ◌∙◌, subst, arith, inl, inr, length-append}
use Rattle.std.specs.Prelude.{slice_get, filter, Contains, sum_by}
use Rattle.std.specs.List.Sorted.{IsNonDecreasingBy}
use Rattle.std.proofs.lemmas.Bool.{cases_lt}
use Rattle.std.proofs.lemmas.List.Sums.{sum_by-cons}
use Rattle.std.proofs.lemmas.Option.{same_Some, slice_get_within, slice_get-get_or}
use Rattle.rule_reports.proofs.Members.{Contains-first, Contains-later}
use Rattle.venue_types.specs.declared.link.Link.{Link}
use Rattle.venue_nodes.specs.Members.{places_where}
use Rattle.venue_nodes.proofs.Places.{kept_at, places_count}
use Rattle.link_graph.specs.declared.parts.Core.{Core}
use Rattle.link_graph.specs.declared.parts.Seat.{Seat}
use Rattle.link_graph.specs.Cores.{IsSoundCore, network_in, others_in, seats_at, leaving_at, across_count}
use Rattle.link_graph.specs.Networks.{links_out}
use Rattle.link_graph.specs.Leads.{starts_at, links_of_row, links_of_seats, passages_out, AreSeats, IsLastSeat, HasNoSeat}
use Rattle.link_graph.proofs.LeadingLists.{at_left, at_right, at_place}
use Rattle.link_graph.proofs.LeadingSeats.{node_seats, seat_count, links_out_are}

-- ---- seats by their first places

pub first_from : (core : Core) (at : ℕ) (seats : List Seat) (i : ℕ) (seat : Seat) → AreSeats core at seats → slice_get seats i ≡ Some seat → at ≤ seat.first
first_from core at [] i seat h there = absurd (let no : None ≡ Some seat = there in cc)
first_from core at (s ∷ seats) zero seat h there =
    let first : seat.first ≡ at = subst (λ (t : Seat). t.first ≡ at) (same_Some s seat there) h.0 in
    omega (arith, first)
first_from core at (s ∷ seats) (suc i) seat h there =
    let later = first_from core (at + others_in core s.row s.place) seats i seat h.2 there in
    omega (arith, later)

firsts_rise : (core : Core) (at : ℕ) (seats : List Seat) (i j : ℕ) (a b : Seat) → AreSeats core at seats → i ≤ j → slice_get seats i ≡ Some a → slice_get seats j ≡ Some b → a.first ≤ b.first
firsts_rise core at [] i j a b h order here there = absurd (let no : None ≡ Some a = here in cc)
firsts_rise core at (s ∷ seats) zero j a b h order here there =
    let first : a.first ≡ at = subst (λ (t : Seat). t.first ≡ at) (same_Some s a here) h.0 in
    let from = first_from core at (s ∷ seats) j b h there in
    omega (arith, first, from)
firsts_rise core at (s ∷ seats) (suc i) zero a b h order here there = absurd (omega (arith, order))
firsts_rise core at (s ∷ seats) (suc i) (suc j) a b h order here there = firsts_rise core (at + others_in core s.row s.place) seats i j a b h.2 (omega (arith, order)) here there

pub seats_rise : (core : Core) (n : ℕ) → IsSoundCore core → IsNonDecreasingBy (λ (seat : Seat). seat.first) (seats_at core n)
seats_rise core n sound i j d order within =
    firsts_rise core 0 (seats_at core n) i j (get_or (seats_at core n) i d) (get_or (seats_at core n) j d) (node_seats core n sound) order
    (slice_get-get_or (seats_at core n) i d (omega (arith, order, within)))
    (slice_get-get_or (seats_at core n) j d within)

next_first : (core : Core) (at : ℕ) (seats : List Seat) (i : ℕ) (seat next : Seat) → AreSeats core at seats → slice_get seats i ≡ Some seat → slice_get seats (suc i) ≡ Some next → next.first ≡ seat.first + others_in core seat.row seat.place
next_first core at [] i seat next h here there = absurd (let no : None ≡ Some seat = here in cc)
next_first core at (s ∷ []) zero seat next h here there = absurd (let no : None ≡ Some next = there in cc)
next_first core at (s ∷ (t ∷ seats)) zero seat next h here there =
    let same : next.first ≡ at + others_in core s.row s.place = subst (λ (u : Seat). u.first ≡ at + others_in core s.row s.place) (same_Some t next there) h.2.0 in
    let first : s.first ≡ at = h.0 in
    let up : next.first ≡ s.first + others_in core s.row s.place = omega (arith, same, first) in
    subst (λ (u : Seat). next.first ≡ u.first + others_in core u.row u.place) (same_Some s seat here) up
next_first core at (s ∷ seats) (suc i) seat next h here there = next_first core (at + others_in core s.row s.place) seats i seat next h.2 here there

-- ---- the links of a seat

-- each of these seats has as many links as its row has others
abbrev AreCounted : Core → ℕ → List Seat → Type 0
AreCounted core n seats = (seat : Seat) → Contains seats seat → others_in core seat.row seat.place ≡ length (links_of_row core n seat.row)

counted_later : (core : Core) (n : ℕ) (s : Seat) (seats : List Seat) → AreCounted core n (s ∷ seats) → AreCounted core n seats
counted_later core n s seats h = λ seat i. h seat (Contains-later s seats seat i)

pub in_seat : (core : Core) (n at : ℕ) (seats : List Seat) (i : ℕ) (seat : Seat) (k j : ℕ) → AreSeats core at seats → AreCounted core n seats → slice_get seats i ≡ Some seat → k < others_in core seat.row seat.place → seat.first + k ≡ at + j
    → slice_get (links_of_seats core n seats) j ≡ slice_get (links_of_row core n seat.row) k
in_seat core n at [] i seat k j h counts there below e = absurd (let no : None ≡ Some seat = there in cc)
in_seat core n at (s ∷ seats) zero seat k j h counts there below e =
    let same = same_Some s seat there in
    let first : seat.first ≡ at = subst (λ (t : Seat). t.first ≡ at) same h.0 in
    let count : others_in core seat.row seat.place ≡ length (links_of_row core n seat.row) = subst (λ (t : Seat). others_in core t.row t.place ≡ length (links_of_row core n t.row)) same (counts s (Contains-first s seats)) in
    let is : j ≡ k = omega (arith, first, e) in
    let within : j < length (links_of_row core n seat.row) = omega (arith, is, below, count) in
    ap (λ (t : Seat). slice_get (links_of_row core n t.row ++ links_of_seats core n seats) j) same
    ∙ at_left (links_of_row core n seat.row) (links_of_seats core n seats) j within
    ∙ ap (slice_get (links_of_row core n seat.row)) is
in_seat core n at (s ∷ seats) (suc i) seat k j h counts there below e =
    let later = first_from core (at + others_in core s.row s.place) seats i seat h.2 there in
    let count : others_in core s.row s.place ≡ length (links_of_row core n s.row) = counts s (Contains-first s seats) in
    let rest : j ≡ length (links_of_row core n s.row) + (j - length (links_of_row core n s.row)) = omega (arith, later, count, e) in
    let on : seat.first + k ≡ at + others_in core s.row s.place + (j - length (links_of_row core n s.row)) = omega (arith, later, count, e) in
    at_right (links_of_row core n s.row) (links_of_seats core n seats) j (j - length (links_of_row core n s.row)) rest
    ∙ in_seat core n (at + others_in core s.row s.place) seats i seat k (j - length (links_of_row core n s.row)) h.2 (counted_later core n s seats counts) there below on

seats_long : (core : Core) (n : ℕ) (seats : List Seat) → AreCounted core n seats → length (links_of_seats core n seats) ≡ sum_by (λ (seat : Seat). others_in core seat.row seat.place) seats
seats_long core n [] counts = refl
seats_long core n (s ∷ seats) counts =
    let count : others_in core s.row s.place ≡ length (links_of_row core n s.row) = counts s (Contains-first s seats) in
    let rest = seats_long core n seats (counted_later core n s seats counts) in
    let both = length-append (links_of_row core n s.row) (links_of_seats core n seats) in
    let sum = sum_by-cons (λ (seat : Seat). others_in core seat.row seat.place) s seats in
    omega (arith, count, rest, both, sum)

last_end : (core : Core) (at : ℕ) (seats : List Seat) (i : ℕ) (seat : Seat) → AreSeats core at seats → slice_get seats i ≡ Some seat → length seats ≡ i + 1
    → at + sum_by (λ (s : Seat). others_in core s.row s.place) seats ≡ seat.first + others_in core seat.row seat.place
last_end core at [] i seat h there long = absurd (let no : None ≡ Some seat = there in cc)
last_end core at (s ∷ []) zero seat h there long =
    let first : s.first ≡ at = h.0 in
    let end : at + (0 + others_in core s.row s.place) ≡ s.first + others_in core s.row s.place = omega (arith, first) in
    subst (λ (t : Seat). at + (0 + others_in core s.row s.place) ≡ t.first + others_in core t.row t.place) (same_Some s seat there) end
last_end core at (s ∷ (t ∷ seats)) zero seat h there long = absurd (omega (arith, long))
last_end core at (s ∷ seats) (suc i) seat h there long =
    let rest = last_end core (at + others_in core s.row s.place) seats i seat h.2 there (omega (arith, long)) in
    let sum = sum_by-cons (λ (u : Seat). others_in core u.row u.place) s seats in
    omega (arith, rest, sum)

-- ---- of a node

pub node_counted : (core : Core) (n : ℕ) → IsSoundCore core → (seat : Seat) → Contains (seats_at core n) seat → others_in core seat.row seat.place ≡ length (links_of_row core n seat.row)
node_counted core n sound seat h = seat_count core n seat sound h

pub across_long : (core : Core) (n : ℕ) → IsSoundCore core → length (links_of_seats core n (seats_at core n)) ≡ across_count core n
across_long core n sound = seats_long core n (seats_at core n) (node_counted core n sound)

passages_long : (core : Core) (n : ℕ) → IsSoundCore core → length (passages_out core n) ≡ length (leaving_at core n)
unfolding passages_out
passages_long core n sound = sym (ap length (sound.seated.leaving_are n) ∙ places_count (starts_at n) 0 core.passages.items)

pub out_long : (core : Core) (n : ℕ) → IsSoundCore core → length (links_out (network_in core) n) ≡ across_count core n + length (leaving_at core n)
out_long core n sound =
    let all = ap length (links_out_are core n sound) in
    let both = length-append (links_of_seats core n (seats_at core n)) (passages_out core n) in
    let across = across_long core n sound in
    let passages = passages_long core n sound in
    omega (arith, all, both, across, passages)

-- a link across the unit of a seat
pub lead_across : (core : Core) (n place k : ℕ) (seat : Seat) (link : Link) → IsSoundCore core → Contains (seats_at core n) seat → place ≡ seat.first + k → k < others_in core seat.row seat.place → slice_get (links_of_row core n seat.row) k ≡ Some link
    → slice_get (links_out (network_in core) n) place ≡ Some link
lead_across core n place k seat link sound (i, within, is) e below there =
    let seats = seats_at core n in
    let here : slice_get seats i ≡ Some seat = slice_get-get_or seats i seat within ∙ ap (λ (s : Seat). Some s) is in
    let found = in_seat core n 0 seats i seat k place (node_seats core n sound) (node_counted core n sound) here below (omega (arith, e)) ∙ there in
    ap (λ (ls : List Link). slice_get ls place) (links_out_are core n sound)
    ∙ at_left (links_of_seats core n seats) (passages_out core n) place (slice_get_within (links_of_seats core n seats) place link found)
    ∙ found

-- a link by a relationship
pub lead_passage : (core : Core) (n place k : ℕ) (link : Link) → IsSoundCore core → place ≡ across_count core n + k → slice_get (passages_out core n) k ≡ Some link → slice_get (links_out (network_in core) n) place ≡ Some link
lead_passage core n place k link sound e there =
    let across = across_long core n sound in
    ap (λ (ls : List Link). slice_get ls place) (links_out_are core n sound)
    ∙ at_right (links_of_seats core n (seats_at core n)) (passages_out core n) place k (omega (arith, e, across))
    ∙ there

-- where the links across units end
pub seats_end : (core : Core) (n k : ℕ) (seat : Seat) → IsSoundCore core → slice_get (seats_at core n) k ≡ Some seat → length (seats_at core n) ≡ k + 1 → across_count core n ≡ seat.first + others_in core seat.row seat.place
seats_end core n k seat sound there long =
    let end = last_end core 0 (seats_at core n) k seat (node_seats core n sound) there long in
    omega (arith, end)

is_last : (core : Core) (n place : ℕ) (seat : Seat) (h : IsLastSeat (seats_at core n) place seat) → IsSoundCore core → seat.first + others_in core seat.row seat.place ≤ place → length (seats_at core n) ≡ h.k + 1
is_last core n place seat h sound behind = elim (cases_lt (suc h.k) (length (seats_at core n))) [
  | inl more ↦
      let next = at_place (seats_at core n) (suc h.k) more in
      let above = h.last (suc h.k) next.0 (omega arith) next.1 in
      let first = next_first core 0 (seats_at core n) h.k seat next.0 (node_seats core n sound) h.there next.1 in
      absurd (omega (arith, above, first, behind))
  | inr none ↦
      let within = slice_get_within (seats_at core n) h.k seat h.there in
      omega (arith, none, within)
]

pub end_behind : (core : Core) (n place : ℕ) (seat : Seat) → IsSoundCore core → IsLastSeat (seats_at core n) place seat → seat.first + others_in core seat.row seat.place ≤ place → across_count core n ≡ seat.first + others_in core seat.row seat.place
end_behind core n place seat sound h behind = seats_end core n h.k seat sound h.there (is_last core n place seat h sound behind)

none_end : (core : Core) (place : ℕ) (seats : List Seat) → AreSeats core 0 seats → HasNoSeat seats place → sum_by (λ (seat : Seat). others_in core seat.row seat.place) seats ≡ 0
none_end core place [] h none = refl
none_end core place (s ∷ seats) h none =
    let first : s.first ≡ 0 = h.0 in
    let above = none.all 0 s refl in
    absurd (omega (arith, first, above))

pub no_seats_end : (core : Core) (n place : ℕ) → IsSoundCore core → HasNoSeat (seats_at core n) place → across_count core n ≡ 0
no_seats_end core n place sound none = none_end core place (seats_at core n) (node_seats core n sound) none

-- ---- passages by their numbers

-- the passage of this number is the item at the place of those out of the node
pub record IsLeaving (core : Core) (n k number : ℕ) : Type 0 where
  pub link : Link
  pub there : slice_get core.passages.items number ≡ Some link
  pub leaves : slice_get (passages_out core n) k ≡ Some link

pub leaving_at_place : (core : Core) (n k number : ℕ) → IsSoundCore core → slice_get (leaving_at core n) k ≡ Some number → IsLeaving core n k number
unfolding passages_out
leaving_at_place core n k number sound here =
    let test = starts_at n in
    let listed = subst (λ (ks : List ℕ). slice_get ks k ≡ Some number) (sound.seated.leaving_are n) here in
    let within = slice_get_within (places_where test 0 core.passages.items) k number listed in
    let count = places_count test 0 core.passages.items in
    let item = at_place (filter test core.passages.items) k (omega (arith, within, count)) in
    let kept = kept_at test 0 core.passages.items k item.0 item.1 in
    let same : number ≡ 0 + kept.k = same_Some number (0 + kept.k) (sym listed ∙ kept.placed) in
    let is : kept.k ≡ number = omega (arith, same) in
    record { link = item.0; there = subst (λ (i : ℕ). slice_get core.passages.items i ≡ Some item.0) is kept.there; leaves = item.1 }
