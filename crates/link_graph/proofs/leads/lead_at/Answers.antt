use Rattle.std.proofs.Common.{◌-◌, List, sym, arith, subst}
use Rattle.std.specs.List.Sorted.{IsNonDecreasingBy}
use Rattle.venue_nodes.proofs.Items.{member_at}
use Rattle.link_graph.specs.declared.parts.Seat.{Seat}
use Rattle.link_graph.specs.Cores.{seats_at}
use Rattle.link_graph.specs.Leads.{HasNoSeat, IsLastSeat, lead_link}
use Rattle.link_graph.proofs.LeadingPlaces.{seats_rise, out_long, no_seats_end, end_behind, lead_across, lead_passage}
use Rattle.link_graph.proofs.LeadingReads.{seats_read}
use Rattle.link_graph.proofs.LeadingSeats.{seat_within}
use Rattle.link_graph.proofs.leads.lead_at.Goals as goal

pub last_seat-requires : goal.last_seat-requires
last_seat-requires c =
    let e = seats_read c.args.core.now c.args.n c.index.result.now c.as_slice.result.now c.requires.sound c.requires.node c.index.ensures c.as_slice.ensures in
    subst (IsNonDecreasingBy (λ (seat : Seat). seat.first)) (sym e) (seats_rise c.args.core.now c.args.n c.requires.sound)

pub passage-requires-clause-k : goal.passage-requires-clause-k
passage-requires-clause-k c =
    let core = c.args.core.now in
    let e = seats_read core c.args.n c.index.result.now c.as_slice.result.now c.requires.sound c.requires.node c.index.ensures c.as_slice.ensures in
    let none : HasNoSeat c.as_slice.result.now c.args.place = c.in-None.ensures in
    let end = no_seats_end core c.args.n c.args.place c.requires.sound (subst (λ (ss : List Seat). HasNoSeat ss c.args.place) e none) in
    omega (arith, end, out_long core c.args.n c.requires.sound, c.requires.place)

pub others-count-requires-clause-place : goal.others-count-requires-clause-place
others-count-requires-clause-place c =
    let core = c.args.core.now in
    let e = seats_read core c.args.n c.index.result.now c.as_slice.result.now c.requires.sound c.requires.node c.index.ensures c.as_slice.ensures in
    let last : IsLastSeat c.as_slice.result.now c.args.place c.in-Some.seat = c.in-Some.ensures in
    let here = subst (λ (ss : List Seat). IsLastSeat ss c.args.place c.in-Some.seat) e last in
    seat_within core c.args.n c.in-Some.seat c.requires.sound (member_at (seats_at core c.args.n) here.k c.in-Some.seat here.there)

pub across-requires-clause-seat : goal.across-requires-clause-seat
across-requires-clause-seat c =
    let core = c.args.core.now in
    let e = seats_read core c.args.n c.index.result.now c.as_slice.result.now c.requires.sound c.requires.node c.index.ensures c.as_slice.ensures in
    let last : IsLastSeat c.as_slice.result.now c.args.place c.in-Some.seat = c.in-Some.ensures in
    let here = subst (λ (ss : List Seat). IsLastSeat ss c.args.place c.in-Some.seat) e last in
    member_at (seats_at core c.args.n) here.k c.in-Some.seat here.there

pub passage-requires-else-behind-count-clause-k : goal.passage-requires-else-behind-count-clause-k
passage-requires-else-behind-count-clause-k c =
    let core = c.args.core.now in
    let e = seats_read core c.args.n c.index.result.now c.as_slice.result.now c.requires.sound c.requires.node c.index.ensures c.as_slice.ensures in
    let last : IsLastSeat c.as_slice.result.now c.args.place c.in-Some.seat = c.in-Some.ensures in
    let here = subst (λ (ss : List Seat). IsLastSeat ss c.args.place c.in-Some.seat) e last in
    let before = here.before in
    let count = c.others-count.ensures in
    let behind = c.if-behind-count.false in
    let end = end_behind core c.args.n c.args.place c.in-Some.seat c.requires.sound here (omega (arith, before, count, behind)) in
    omega (arith, end, before, count, behind, out_long core c.args.n c.requires.sound, c.requires.place)

pub returns-in-None : goal.returns-in-None
returns-in-None c =
    let core = c.args.core.now in
    let e = seats_read core c.args.n c.index.result.now c.as_slice.result.now c.requires.sound c.requires.node c.index.ensures c.as_slice.ensures in
    let none : HasNoSeat c.as_slice.result.now c.args.place = c.in-None.ensures in
    let end = no_seats_end core c.args.n c.args.place c.requires.sound (subst (λ (ss : List Seat). HasNoSeat ss c.args.place) e none) in
    lead_passage core c.args.n c.args.place c.args.place c.passage.result c.requires.sound (omega (arith, end)) c.passage.ensures

pub returns-then-behind-count : goal.returns-then-behind-count
returns-then-behind-count c =
    let core = c.args.core.now in
    let e = seats_read core c.args.n c.index.result.now c.as_slice.result.now c.requires.sound c.requires.node c.index.ensures c.as_slice.ensures in
    let last : IsLastSeat c.as_slice.result.now c.args.place c.in-Some.seat = c.in-Some.ensures in
    let here = subst (λ (ss : List Seat). IsLastSeat ss c.args.place c.in-Some.seat) e last in
    let before = here.before in
    let count = c.others-count.ensures in
    let below = c.if-behind-count.true in
    lead_across core c.args.n c.args.place (c.args.place - c.in-Some.seat.first) c.in-Some.seat (lead_link core c.args.n c.across.result) c.requires.sound
    (member_at (seats_at core c.args.n) here.k c.in-Some.seat here.there)
    (omega (arith, before)) (omega (arith, count, below)) c.across.ensures

pub returns-else-behind-count : goal.returns-else-behind-count
returns-else-behind-count c =
    let core = c.args.core.now in
    let e = seats_read core c.args.n c.index.result.now c.as_slice.result.now c.requires.sound c.requires.node c.index.ensures c.as_slice.ensures in
    let last : IsLastSeat c.as_slice.result.now c.args.place c.in-Some.seat = c.in-Some.ensures in
    let here = subst (λ (ss : List Seat). IsLastSeat ss c.args.place c.in-Some.seat) e last in
    let before = here.before in
    let count = c.others-count.ensures in
    let behind = c.if-behind-count.false in
    let end = end_behind core c.args.n c.args.place c.in-Some.seat c.requires.sound here (omega (arith, before, count, behind)) in
    lead_passage core c.args.n c.args.place (c.args.place - c.in-Some.seat.first - c.others-count.result) c.passage-else-behind-count.result c.requires.sound (omega (arith, end, before, count, behind)) c.passage-else-behind-count.ensures
