use Rattle.std.proofs.Common.{◌≡◌, ◌≢◌, ℕ, ◌+◌, ◌<◌, ◌≤◌, List, Option, Some, get_or, length, refl, sym, ap, ◌∙◌, subst, inl, inr, arith}
use Rattle.std.specs.Prelude.{slice_get, IfSome}
use Rattle.std.proofs.lemmas.Bool.{cases_eq}
use Rattle.std.proofs.lemmas.Option.{same_Some, slice_get-get_or, slice_get_within}
use Rattle.venue_nodes.proofs.Items.{at_member, member_at}
use Rattle.link_graph.specs.declared.parts.Core.{Core}
use Rattle.link_graph.specs.declared.parts.Seat.{Seat}
use Rattle.link_graph.specs.Cores.{IsSoundCore, network_in, seats_at}
use Rattle.link_graph.specs.Rests.{HasSeatIn, IsPlaceOf}
use Rattle.link_graph.proofs.LeadingReads.{seats_read}
use Rattle.link_graph.proofs.NewLinks.{place_of_seat}
use Rattle.link_graph.proofs.new_links.known_place.Goals as goal

has_seat : (core : Core) (row a : ℕ) (known : Option ℕ) → known ≡ Some a → IfSome known (HasSeatIn core row) → HasSeatIn core row a
has_seat core row a known is has = subst (λ (o : Option ℕ). IfSome o (HasSeatIn core row)) is has

read_seats : (core : Core) (row a : ℕ) (list given : List Seat) → IsSoundCore core → HasSeatIn core row a → list ≡ get_or core.seats.items a list → given ≡ list → given ≡ seats_at core a
unfolding network_in
read_seats core row a list given sound has read same = seats_read core a list given sound has.0 read same

-- one that is found
found_place : (core : Core) (row a i : ℕ) (items : List Seat) (seat : Seat) → IsSoundCore core → items ≡ seats_at core a → i < length items → seat ≡ get_or items i (record { row = 0; place = 0; first = 0 }) → seat.row ≡ row → IsPlaceOf core row a seat.place
found_place core row a i items seat sound are within read is =
    let at = slice_get-get_or items i (record { row = 0; place = 0; first = 0 }) within ∙ ap (λ (s : Seat). Some s) (sym read) in
    place_of_seat core a row seat sound (member_at (seats_at core a) i seat (subst (λ (ss : List Seat). slice_get ss i ≡ Some seat) are at)) is

one_more : (row i : ℕ) (items : List Seat) → ((j : ℕ) (seat : Seat) → j < i → slice_get items j ≡ Some seat → seat.row ≢ row) → i < length items → (get_or items i (record { row = 0; place = 0; first = 0 })).row ≢ row
    → (j : ℕ) (seat : Seat) → j < i + 1 → slice_get items j ≡ Some seat → seat.row ≢ row
one_more row i items before within other = λ j seat below at. elim (cases_eq j i) [
  | inl same ↦
      let here = slice_get-get_or items i (record { row = 0; place = 0; first = 0 }) within in
      let is = same_Some _ seat (sym here ∙ ap (slice_get items) (sym same) ∙ at) in
      subst (λ (s : Seat). s.row ≢ row) is other
  | inr apart ↦ before j seat (omega (arith, below, apart)) at
]

pub loop-seat-init : goal.loop-seat-init
loop-seat-init c = λ j seat below at. absurd (omega (arith, below))

pub loop-seat-preserved : goal.loop-seat-preserved
loop-seat-preserved c = one_more c.args.row c.loop-seat.seat-index c.as_slice-seat-items.result.now c.loop-seat.invariant c.loop-seat-test.true c.if-seat-row.false

pub returns-then-seat-row-clause-some : goal.returns-then-seat-row-clause-some
returns-then-seat-row-clause-some c = λ a e.
    let core = c.args.core.now in
    let same = same_Some c.in_ok-a.a a (sym c.in_ok-a.was ∙ e) in
    let has = has_seat core c.args.row c.in_ok-a.a c.args.known c.in_ok-a.was c.requires.known in
    let are = read_seats core c.args.row c.in_ok-a.a c.index.result.now c.as_slice-seat-items.result.now c.requires.sound has c.index.ensures c.as_slice-seat-items.ensures in
    let seat : Seat = get_or c.as_slice-seat-items.result.now c.loop-seat.seat-index (record { row = 0; place = 0; first = 0 }) in
    (subst (λ (m : ℕ). IsPlaceOf core c.args.row m seat.place) same (found_place core c.args.row c.in_ok-a.a c.loop-seat.seat-index c.as_slice-seat-items.result.now seat c.requires.sound are c.loop-seat-test.true refl c.if-seat-row.true), refl)

none_left : (core : Core) (row a i : ℕ) (items : List Seat) → HasSeatIn core row a → items ≡ seats_at core a → length items ≤ i → ((j : ℕ) (seat : Seat) → j < i → slice_get items j ≡ Some seat → seat.row ≢ row) → ⊥
none_left core row a i items has are end before =
    let at = at_member (seats_at core a) has.1 has.2 in
    let there = subst (λ (ss : List Seat). slice_get ss at.0 ≡ Some has.1) (sym are) at.1 in
    let within = slice_get_within items at.0 has.1 there in
    before at.0 has.1 (omega (arith, within, end)) there has.3

pub returns-clause-some : goal.returns-clause-some
returns-clause-some c = λ a e.
    let core = c.args.core.now in
    let has = has_seat core c.args.row c.in_ok-a.a c.args.known c.in_ok-a.was c.requires.known in
    let are = read_seats core c.args.row c.in_ok-a.a c.index.result.now c.as_slice-seat-items.result.now c.requires.sound has c.index.ensures c.as_slice-seat-items.ensures in
    absurd (none_left core c.args.row c.in_ok-a.a c.loop-seat.seat-index c.as_slice-seat-items.result.now has are c.loop-seat-test.false c.loop-seat.invariant)
