use Rattle.std.proofs.Common.{◌≡◌, ◌-◌, ◌<◌, ℕ, List, Option, Some, None, max, get_or, length, sym, ap, ◌∙◌, subst, arith}
use Rattle.std.specs.Prelude.{slice_get, Contains}
use Rattle.std.proofs.lemmas.Option.{slice_get_within}
use Rattle.venue_nodes.specs.Rows.{row_list}
use Rattle.link_graph.specs.declared.new_links.NewLink.{NewLink}
use Rattle.link_graph.specs.declared.parts.Core.{Core}
use Rattle.link_graph.specs.declared.parts.Crossing.{Crossing}
use Rattle.link_graph.specs.declared.parts.Seat.{Seat}
use Rattle.link_graph.specs.Cores.{IsSoundCore, network_in, seats_at, stretch_of}
use Rattle.link_graph.specs.Detours.{AreKnown}
use Rattle.link_graph.proofs.LeadingReads.{crossing_read, place_read}
use Rattle.link_graph.proofs.LeadingSeats.{seat_seated}
use Rattle.link_graph.proofs.LeadingStretches.{crossing_within}
use Rattle.link_graph.proofs.NewLinks.{IsThere, found_few, found_within, has_seat, passed_all, passed_found, passed_none, passed_whole, place_known, seat_new, seat_there}
use Rattle.link_graph.proofs.new_links.next_across.Goals as goal

-- the seat with the unit that is read
there_at : (core : Core) (n : ℕ) (seat : Seat) (crossing : Crossing) → IsSoundCore core → Contains (seats_at core n) seat → crossing ≡ get_or core.crossings.items seat.row crossing → IsThere core n seat crossing
there_at core n seat crossing sound member read =
    seat_there core n seat crossing sound member (crossing_read core n seat.row seat.place crossing (seat_seated core n seat sound member) read)

place_there : (core : Core) (n : ℕ) (seat : Seat) (crossing : Crossing) → IsSoundCore core → Contains (seats_at core n) seat → crossing ≡ get_or core.crossings.items seat.row crossing → seat.place < length crossing.sights
place_there core n seat crossing sound member read =
    let seated = seat_seated core n seat sound member in
    place_read core n seat.row seat.place crossing seated (crossing_read core n seat.row seat.place crossing seated read)

-- the neighbour at which one begins
begins_at : (xs : List ℕ) (most from first : ℕ) (nth item : Option ℕ) → most ≡ max from first → nth ≡ slice_get xs (most - first) → nth ≡ item → slice_get xs (max from first - first) ≡ item
begins_at xs most from first nth item e read is = ap (λ (m : ℕ). slice_get xs (m - first)) (sym e) ∙ sym read ∙ is

none_new : (core : Core) (n from : ℕ) (seat : Seat) (known : Option ℕ) (result : Option NewLink) → result ≡ None → AreKnown (network_in core) n (stretch_of core seat) known from None → AreKnown (network_in core) n (stretch_of core seat) known from result
none_new core n from seat known result is known_all = subst (λ (found : Option NewLink). AreKnown (network_in core) n (stretch_of core seat) known from found) (sym is) known_all

pub index-crossing-requires : goal.index-crossing-requires
index-crossing-requires c =
    let core = c.args.core.now in
    let within = crossing_within core c.args.n c.args.seat.now c.requires.sound c.requires.seat in
    omega (arith, within, core.crossings.ok.0)

pub returns-then-is_whole-clause-passed : goal.returns-then-is_whole-clause-passed
returns-then-is_whole-clause-passed c =
    let core = c.args.core.now in
    let seat = c.args.seat.now in
    let crossing = c.index-crossing.result.now in
    let there = there_at core c.args.n seat crossing c.requires.sound c.requires.seat c.index-crossing.ensures in
    passed_whole core c.args.n c.args.place seat crossing c.args.known c.requires.sound there (c.is_whole.ensures.0 c.if-is_whole.true) (sym c.is_some.ensures ∙ c.if-is_some.true)
    (has_seat core seat crossing c.args.known c.requires.sound there.unit c.requires.known)

pub nth-requires : goal.nth-requires
nth-requires c = place_there c.args.core.now c.args.n c.args.seat.now c.index-crossing.result.now c.requires.sound c.requires.seat c.index-crossing.ensures

pub returns-in_err-from-clause-passed : goal.returns-in_err-from-clause-passed
returns-in_err-from-clause-passed c =
    let core = c.args.core.now in
    let seat = c.args.seat.now in
    let crossing = c.index-crossing.result.now in
    let there = there_at core c.args.n seat crossing c.requires.sound c.requires.seat c.index-crossing.ensures in
    let begins = begins_at _ c.max.result c.args.place seat.first c.nth.result None c.max.ensures c.nth.ensures c.in_err-from.was in
    none_new core c.args.n c.args.place seat c.args.known c.from_residual.result c.from_residual.ensures (passed_none core c.args.n c.args.place seat crossing c.args.known there begins)

pub known_place-a-requires-clause-known : goal.known_place-a-requires-clause-known
known_place-a-requires-clause-known c =
    let core = c.args.core.now in
    let seat = c.args.seat.now in
    let crossing = c.index-crossing.result.now in
    let there = there_at core c.args.n seat crossing c.requires.sound c.requires.seat c.index-crossing.ensures in
    has_seat core seat crossing c.args.known c.requires.sound there.unit c.requires.known

pub next-requires-clause-row : goal.next-requires-clause-row
next-requires-clause-row c = place_there c.args.core.now c.args.n c.args.seat.now c.index-crossing.result.now c.requires.sound c.requires.seat c.index-crossing.ensures

pub next-requires-clause-known : goal.next-requires-clause-known
next-requires-clause-known c =
    let core = c.args.core.now in
    let seat = c.args.seat.now in
    let crossing = c.index-crossing.result.now in
    let there = there_at core c.args.n seat crossing c.requires.sound c.requires.seat c.index-crossing.ensures in
    place_known core c.args.n seat crossing c.args.known c.known_place-a.result there (record { none = c.known_place-a.ensures.none; some = c.known_place-a.ensures.some })

pub returns-in_err-found-clause-passed : goal.returns-in_err-found-clause-passed
returns-in_err-found-clause-passed c =
    let core = c.args.core.now in
    let seat = c.args.seat.now in
    let crossing = c.index-crossing.result.now in
    let there = there_at core c.args.n seat crossing c.requires.sound c.requires.seat c.index-crossing.ensures in
    let begins = begins_at _ c.max.result c.args.place seat.first c.nth.result (Some c.in_ok-from.from) c.max.ensures c.nth.ensures c.in_ok-from.was in
    none_new core c.args.n c.args.place seat c.args.known c.from_residual-in_err-found.result c.from_residual-in_err-found.ensures
    (passed_all core c.args.n c.args.place c.in_ok-from.from seat crossing c.args.known c.known_place-a.result c.requires.sound there (record { none = c.known_place-a.ensures.none; some = c.known_place-a.ensures.some })
    begins (sym c.in_err-found.was ∙ c.next.ensures))

pub rank-requires-clause-row : goal.rank-requires-clause-row
rank-requires-clause-row c = place_there c.args.core.now c.args.n c.args.seat.now c.index-crossing.result.now c.requires.sound c.requires.seat c.index-crossing.ensures

pub rank-requires-clause-column : goal.rank-requires-clause-column
rank-requires-clause-column c = found_within c.index-crossing.result.now.sights c.args.seat.now.place c.known_place-a.result c.in_ok-from.from c.in_ok-found.found (sym c.in_ok-found.was ∙ c.next.ensures)

pub overflow_add-result : goal.overflow_add-result
overflow_add-result c =
    let core = c.args.core.now in
    let seat = c.args.seat.now in
    let crossing = c.index-crossing.result.now in
    let there = there_at core c.args.n seat crossing c.requires.sound c.requires.seat c.index-crossing.ensures in
    let begins = begins_at _ c.max.result c.args.place seat.first c.nth.result (Some c.in_ok-from.from) c.max.ensures c.nth.ensures c.in_ok-from.was in
    let few = found_few core c.args.n c.args.place c.in_ok-from.from c.in_ok-found.found c.rank.result seat crossing c.known_place-a.result c.requires.sound c.requires.seat there begins (sym c.in_ok-found.was ∙ c.next.ensures) c.rank.ensures in
    omega (arith, few)

pub row-requires : goal.row-requires
row-requires c =
    let core = c.args.core.now in
    let seated = seat_seated core c.args.n c.args.seat.now c.requires.sound c.requires.seat in
    slice_get_within (row_list core.rows) c.args.seat.now.row seated.row seated.is_row

pub bounds-row-found : goal.bounds-row-found
bounds-row-found c =
    let core = c.args.core.now in
    let seat = c.args.seat.now in
    let crossing = c.index-crossing.result.now in
    let there = there_at core c.args.n seat crossing c.requires.sound c.requires.seat c.index-crossing.ensures in
    let below = found_within crossing.sights seat.place c.known_place-a.result c.in_ok-from.from c.in_ok-found.found (sym c.in_ok-found.was ∙ c.next.ensures) in
    let long = (c.requires.sound.tables seat.row crossing c.row.result.now there.unit c.row.ensures).long in
    omega (arith, below, long)

pub returns-clause-told : goal.returns-clause-told
returns-clause-told c =
    let core = c.args.core.now in
    let seat = c.args.seat.now in
    let crossing = c.index-crossing.result.now in
    let there = there_at core c.args.n seat crossing c.requires.sound c.requires.seat c.index-crossing.ensures in
    let begins = begins_at _ c.max.result c.args.place seat.first c.nth.result (Some c.in_ok-from.from) c.max.ensures c.nth.ensures c.in_ok-from.was in
    seat_new core c.args.n c.args.place c.in_ok-from.from c.in_ok-found.found c.rank.result seat crossing c.row.result.now c.known_place-a.result c.requires.sound c.requires.seat there c.row.ensures
    begins (sym c.in_ok-found.was ∙ c.next.ensures) c.rank.ensures

pub returns-clause-passed : goal.returns-clause-passed
returns-clause-passed c =
    let core = c.args.core.now in
    let seat = c.args.seat.now in
    let crossing = c.index-crossing.result.now in
    let there = there_at core c.args.n seat crossing c.requires.sound c.requires.seat c.index-crossing.ensures in
    let begins = begins_at _ c.max.result c.args.place seat.first c.nth.result (Some c.in_ok-from.from) c.max.ensures c.nth.ensures c.in_ok-from.was in
    passed_found core c.args.n c.args.place c.in_ok-from.from c.in_ok-found.found c.rank.result seat crossing c.args.known c.known_place-a.result 0 c.requires.sound there
    (record { none = c.known_place-a.ensures.none; some = c.known_place-a.ensures.some }) begins (sym c.in_ok-found.was ∙ c.next.ensures) c.rank.ensures
