use Rattle.std.proofs.Common.{◌≡◌, ℕ, List, None, Some, length, refl, sym, ap, ◌∙◌, subst, arith}
use Rattle.std.specs.Prelude.{slice_get}
use Rattle.venue_nodes.proofs.Items.{member_at}
use Rattle.link_graph.specs.declared.parts.Seat.{Seat}
use Rattle.link_graph.specs.declared.stretches.Stretch.{Stretch}
use Rattle.link_graph.specs.Cores.{seats_at}
use Rattle.link_graph.proofs.LeadingEnds.{parts_few}
use Rattle.link_graph.proofs.LeadingReads.{seats_read, leaving_read}
use Rattle.link_graph.proofs.LeadingStretches.{crossing_within, stretch_inside, stretch_rest}
use Rattle.link_graph.proofs.LeadingSeats.{seat_within}
use Rattle.link_graph.proofs.outlook.stretch_at.Goals as goal

pub seat_stretch-requires-clause-row : goal.seat_stretch-requires-clause-row
seat_stretch-requires-clause-row c =
    let core = c.args.core.now in
    let e = seats_read core c.args.n c.index.result.now c.index.result.now c.requires.sound c.requires.node c.index.ensures refl in
    let at : Some c.in-Some.seat.now ≡ slice_get c.index.result.now c.args.k = c.in-Some.ensures in
    let there = subst (λ (ss : List Seat). slice_get ss c.args.k ≡ Some c.in-Some.seat.now) e (sym at) in
    crossing_within core c.args.n c.in-Some.seat.now c.requires.sound (member_at (seats_at core c.args.n) c.args.k c.in-Some.seat.now there)

pub seat_stretch-requires-clause-place : goal.seat_stretch-requires-clause-place
seat_stretch-requires-clause-place c =
    let core = c.args.core.now in
    let e = seats_read core c.args.n c.index.result.now c.index.result.now c.requires.sound c.requires.node c.index.ensures refl in
    let at : Some c.in-Some.seat.now ≡ slice_get c.index.result.now c.args.k = c.in-Some.ensures in
    let there = subst (λ (ss : List Seat). slice_get ss c.args.k ≡ Some c.in-Some.seat.now) e (sym at) in
    seat_within core c.args.n c.in-Some.seat.now c.requires.sound (member_at (seats_at core c.args.n) c.args.k c.in-Some.seat.now there)

pub overflow_cast-result : goal.overflow_cast-result
overflow_cast-result c =
    let e = ap (λ (ks : List ℕ). length ks) (leaving_read c.args.core.now c.args.n c.index-in-None.result.now c.index-in-None.result.now c.requires.sound c.requires.node c.index-in-None.ensures refl) in
    omega (arith, e, c.len.ensures, parts_few c.args.core.now c.args.n c.requires.sound)

pub returns-in-Some : goal.returns-in-Some
returns-in-Some c =
    let core = c.args.core.now in
    let e = seats_read core c.args.n c.index.result.now c.index.result.now c.requires.sound c.requires.node c.index.ensures refl in
    let at : Some c.in-Some.seat.now ≡ slice_get c.index.result.now c.args.k = c.in-Some.ensures in
    let there = subst (λ (ss : List Seat). slice_get ss c.args.k ≡ Some c.in-Some.seat.now) e (sym at) in
    stretch_inside core c.args.n c.args.k c.in-Some.seat.now there ∙ ap (λ (s : Stretch). Some s) (sym c.seat_stretch.ensures)

pub returns-in-None : goal.returns-in-None
returns-in-None c =
    let core = c.args.core.now in
    let e = seats_read core c.args.n c.index.result.now c.index.result.now c.requires.sound c.requires.node c.index.ensures refl in
    let at : None ≡ slice_get c.index.result.now c.args.k = c.in-None.ensures in
    let nowhere = subst (λ (ss : List Seat). slice_get ss c.args.k ≡ None) e (sym at) in
    let long = ap (λ (ks : List ℕ). length ks) (leaving_read core c.args.n c.index-in-None.result.now c.index-in-None.result.now c.requires.sound c.requires.node c.index-in-None.ensures refl) in
    stretch_rest core c.args.n c.args.k c.across_end.result c.len.result nowhere c.requires.stretch c.across_end.ensures (c.len.ensures ∙ long)
