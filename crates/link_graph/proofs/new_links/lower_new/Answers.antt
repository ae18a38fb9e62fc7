use Rattle.std.proofs.Common.{◌≡◌, List, None, Some, get_or, refl, sym, ap, ◌∙◌, subst, arith}
use Rattle.std.specs.Prelude.{slice_get}
use Rattle.std.proofs.lemmas.Option.{slice_get_read}
use Rattle.venue_nodes.proofs.Items.{member_at}
use Rattle.link_graph.specs.declared.parts.Seat.{Seat}
use Rattle.link_graph.specs.declared.parts.UnitWay.{UnitWay}
use Rattle.link_graph.specs.Cores.{link_by, network_in, seats_at, stretch_of}
use Rattle.link_graph.specs.Leads.{lower_than}
use Rattle.link_graph.specs.Rests.{rest_of}
use Rattle.link_graph.proofs.LeadingReads.{seats_read}
use Rattle.link_graph.proofs.LeadingStretches.{crossing_within, stretch_inside, stretch_rest}
use Rattle.link_graph.proofs.NewLinks.{found_there, lower_seat, lower_rest}
use Rattle.link_graph.proofs.new_links.lower_new.Goals as goal

pub bounds-least-found : goal.bounds-least-found
unfolding network_in
bounds-least-found c =
    let node = (found_there c.args.core.now c.args.n c.args.k c.args.found c.requires.sound c.requires.stretch c.requires.found).node in
    omega (arith, node, c.requires.entries)

pub index-requires-in-Some : goal.index-requires-in-Some
index-requires-in-Some c =
    let core = c.args.core.now in
    let seat = c.in-Some.seat.now in
    let e = seats_read core c.args.n c.index.result.now c.index.result.now c.requires.sound c.requires.node c.index.ensures refl in
    let at : Some seat ≡ slice_get c.index.result.now c.args.k = c.in-Some.ensures in
    let there = subst (λ (ss : List Seat). slice_get ss c.args.k ≡ Some seat) e (sym at) in
    let within = crossing_within core c.args.n seat c.requires.sound (member_at (seats_at core c.args.n) c.args.k seat there) in
    omega (arith, within, core.crossings.ok.0)

pub lower_across-requires-clause-to : goal.lower_across-requires-clause-to
lower_across-requires-clause-to c = (found_there c.args.core.now c.args.n c.args.k c.args.found c.requires.sound c.requires.stretch c.requires.found).node

pub overflow_sub-found : goal.overflow_sub-found
unfolding network_in
overflow_sub-found c =
    let core = c.args.core.now in
    let e = seats_read core c.args.n c.index.result.now c.index.result.now c.requires.sound c.requires.node c.index.ensures refl in
    let at : None ≡ slice_get c.index.result.now c.args.k = c.in-None.ensures in
    let nowhere = subst (λ (ss : List Seat). slice_get ss c.args.k ≡ None) e (sym at) in
    let new = c.requires.found (rest_of core c.args.n) (stretch_rest core c.args.n c.args.k (rest_of core c.args.n).first (rest_of core c.args.n).count nowhere c.requires.stretch refl refl) in
    let end = c.across_end.ensures in
    let first = new.first in
    omega (arith, first, end)

pub passage-requires-clause-k : goal.passage-requires-clause-k
unfolding network_in
passage-requires-clause-k c =
    let core = c.args.core.now in
    let e = seats_read core c.args.n c.index.result.now c.index.result.now c.requires.sound c.requires.node c.index.ensures refl in
    let at : None ≡ slice_get c.index.result.now c.args.k = c.in-None.ensures in
    let nowhere = subst (λ (ss : List Seat). slice_get ss c.args.k ≡ None) e (sym at) in
    let new = c.requires.found (rest_of core c.args.n) (stretch_rest core c.args.n c.args.k (rest_of core c.args.n).first (rest_of core c.args.n).count nowhere c.requires.stretch refl refl) in
    let end = c.across_end.ensures in
    let first = new.first in
    let within = new.within in
    omega (arith, first, within, end)

pub returns-in-Some : goal.returns-in-Some
unfolding network_in
returns-in-Some c = λ link stands.
    let core = c.args.core.now in
    let seat = c.in-Some.seat.now in
    let e = seats_read core c.args.n c.index.result.now c.index.result.now c.requires.sound c.requires.node c.index.ensures refl in
    let at : Some seat ≡ slice_get c.index.result.now c.args.k = c.in-Some.ensures in
    let there = subst (λ (ss : List Seat). slice_get ss c.args.k ≡ Some seat) e (sym at) in
    let member = member_at (seats_at core c.args.n) c.args.k seat there in
    let crossing = c.index-in-Some.result.now in
    let unit = slice_get_read core.crossings.items _ seat.row crossing refl (crossing_within core c.args.n seat c.requires.sound member) c.index-in-Some.ensures in
    let new = c.requires.found (stretch_of core seat) (stretch_inside core c.args.n c.args.k seat there) in
    lower_seat core c.args.n c.args.base (get_or c.args.least.now c.args.found.to 0) seat crossing c.args.found c.args.least.now link c.lower_across.result c.requires.sound member unit new stands refl
    (c.lower_across.ensures ∙ ap (λ (way : UnitWay). lower_than (get_or c.args.least.now c.args.found.to 0) c.args.base (link_by core way c.args.n c.args.found.to)) c.way.ensures)

pub returns-in-None : goal.returns-in-None
unfolding network_in
returns-in-None c = λ link stands.
    let core = c.args.core.now in
    let e = seats_read core c.args.n c.index.result.now c.index.result.now c.requires.sound c.requires.node c.index.ensures refl in
    let at : None ≡ slice_get c.index.result.now c.args.k = c.in-None.ensures in
    let nowhere = subst (λ (ss : List Seat). slice_get ss c.args.k ≡ None) e (sym at) in
    let new = c.requires.found (rest_of core c.args.n) (stretch_rest core c.args.n c.args.k (rest_of core c.args.n).first (rest_of core c.args.n).count nowhere c.requires.stretch refl refl) in
    let end = c.across_end.ensures in
    lower_rest core c.args.n c.args.base (get_or c.args.least.now c.args.found.to 0) c.passage.result c.args.found c.args.least.now link c.lower_passage.result c.requires.sound new stands refl (rw (← end) c.passage.ensures) c.lower_passage.ensures
