use Rattle.std.proofs.Common.{◌≡◌, ℕ, ◌+◌, ◌-◌, List, Some, length, sym, ap, ◌∙◌, arith, subst}
use Rattle.std.specs.Prelude.{slice_get}
use Rattle.std.proofs.lemmas.Option.{slice_get_within}
use Rattle.venue_nodes.proofs.Items.{member_at}
use Rattle.link_graph.specs.declared.parts.Core.{Core}
use Rattle.link_graph.specs.declared.parts.Seat.{Seat}
use Rattle.link_graph.specs.Cores.{IsSoundCore, across_count, others_in, seats_at}
use Rattle.link_graph.proofs.LeadingEnds.{parts_few}
use Rattle.link_graph.proofs.LeadingPlaces.{seats_end}
use Rattle.link_graph.proofs.LeadingReads.{seats_read}
use Rattle.link_graph.proofs.LeadingSeats.{seat_within}
use Rattle.link_graph.proofs.leads.across_end.Goals as goal

last_there : (core : Core) (n : ℕ) (list : List Seat) (seat : Seat) → list ≡ seats_at core n → Some seat ≡ slice_get list (length list - 1) → slice_get (seats_at core n) (length (seats_at core n) - 1) ≡ Some seat
last_there core n list seat e there = subst (λ (ss : List Seat). slice_get ss (length ss - 1) ≡ Some seat) e (sym there)

ends : (core : Core) (n : ℕ) (list : List Seat) (seat : Seat) → IsSoundCore core → list ≡ seats_at core n → Some seat ≡ slice_get list (length list - 1) → across_count core n ≡ seat.first + others_in core seat.row seat.place
ends core n list seat sound e there =
    let here = last_there core n list seat e there in
    let within = slice_get_within (seats_at core n) (length (seats_at core n) - 1) seat here in
    seats_end core n (length (seats_at core n) - 1) seat sound here (omega (arith, within))

pub others-requires-clause-place : goal.others-requires-clause-place
others-requires-clause-place c =
    let core = c.args.core.now in
    let e = seats_read core c.args.n c.index.result.now c.as_slice.result.now c.requires.sound c.requires.node c.index.ensures c.as_slice.ensures in
    let here = last_there core c.args.n c.as_slice.result.now c.in-Some.seat.now e c.in-Some.ensures.value in
    seat_within core c.args.n c.in-Some.seat.now c.requires.sound (member_at (seats_at core c.args.n) (length (seats_at core c.args.n) - 1) c.in-Some.seat.now here)

pub overflow_add-result : goal.overflow_add-result
overflow_add-result c =
    let core = c.args.core.now in
    let e = seats_read core c.args.n c.index.result.now c.as_slice.result.now c.requires.sound c.requires.node c.index.ensures c.as_slice.ensures in
    let end = ends core c.args.n c.as_slice.result.now c.in-Some.seat.now c.requires.sound e c.in-Some.ensures.value in
    omega (arith, end, parts_few core c.args.n c.requires.sound)

pub returns-in-Some : goal.returns-in-Some
returns-in-Some c =
    let core = c.args.core.now in
    let e = seats_read core c.args.n c.index.result.now c.as_slice.result.now c.requires.sound c.requires.node c.index.ensures c.as_slice.ensures in
    let end = ends core c.args.n c.as_slice.result.now c.in-Some.seat.now c.requires.sound e c.in-Some.ensures.value in
    ap (λ (k : ℕ). c.in-Some.seat.now.first + k) c.others.ensures ∙ sym end
