use Rattle.std.proofs.Common.{sym, ap, ◌∙◌}
use Rattle.std.specs.Prelude.{slice_get}
use Rattle.std.proofs.lemmas.Option.{slice_get_within, same_Some}
use Rattle.venue_nodes.specs.Rows.{row_list}
use Rattle.unit_sight.specs.Tables.{neighbours}
use Rattle.link_graph.specs.declared.parts.Crossing.{Crossing}
use Rattle.link_graph.proofs.LeadingReads.{crossing_read, place_read, joined_read, none_joined, across_lead}
use Rattle.link_graph.proofs.LeadingSeats.{seat_seated}
use Rattle.link_graph.proofs.leads.end_across.Goals as goal

pub nth-requires : goal.nth-requires
nth-requires c =
    let core = c.args.core.now in
    let seat = c.args.seat.now in
    let seated = seat_seated core c.args.n seat c.requires.sound c.requires.seat in
    place_read core c.args.n seat.row seat.place c.index-crossing.result.now seated (crossing_read core c.args.n seat.row seat.place c.index-crossing.result.now seated c.index-crossing.ensures)

pub row-requires : goal.row-requires
row-requires c =
    let core = c.args.core.now in
    let seat = c.args.seat.now in
    let seated = seat_seated core c.args.n seat c.requires.sound c.requires.seat in
    slice_get_within (row_list core.rows) seat.row seated.row seated.is_row

pub bounds-row-place : goal.bounds-row-place
bounds-row-place c =
    let core = c.args.core.now in
    let seat = c.args.seat.now in
    let seated = seat_seated core c.args.n seat c.requires.sound c.requires.seat in
    let here = crossing_read core c.args.n seat.row seat.place c.index-crossing.result.now seated c.index-crossing.ensures in
    joined_read core c.args.n seat.row seat.place c.args.k c.in-Some.place c.index-crossing.result.now c.row.result.now seated here c.row.ensures (sym c.in-Some.ensures)

pub returns-in-Some : goal.returns-in-Some
returns-in-Some c = λ crossing here.
    let core = c.args.core.now in
    let seat = c.args.seat.now in
    let seated = seat_seated core c.args.n seat c.requires.sound c.requires.seat in
    let read = crossing_read core c.args.n seat.row seat.place c.index-crossing.result.now seated c.index-crossing.ensures in
    across_lead core c.args.n seat.row seat.place c.args.k c.in-Some.place crossing c.row.result.now seated here c.row.ensures c.requires.k
    (ap (λ (unit : Crossing). slice_get (neighbours unit.sights seat.place) c.args.k) (same_Some crossing c.index-crossing.result.now (sym here ∙ read)) ∙ sym c.in-Some.ensures)

pub returns-in-None : goal.returns-in-None
returns-in-None c = λ crossing here.
    let core = c.args.core.now in
    let seat = c.args.seat.now in
    let seated = seat_seated core c.args.n seat c.requires.sound c.requires.seat in
    let read = crossing_read core c.args.n seat.row seat.place c.index-crossing.result.now seated c.index-crossing.ensures in
    absurd (none_joined core seat.row seat.place c.args.k c.index-crossing.result.now read c.requires.k (sym c.in-None.ensures))
