use Rattle.std.proofs.Common.{◌≡◌, List, None, Some, refl, sym, ◌∙◌, subst}
use Rattle.std.specs.Prelude.{slice_get, IfSome}
use Rattle.std.proofs.lemmas.Option.{same_Some}
use Rattle.venue_nodes.proofs.Items.{member_at}
use Rattle.link_graph.specs.declared.parts.Seat.{Seat}
use Rattle.link_graph.specs.declared.stretches.Stretch.{Stretch}
use Rattle.link_graph.specs.Cores.{network_in, seats_at, stretch_of}
use Rattle.link_graph.specs.Detours.{AreKnown, IsNewIn}
use Rattle.link_graph.specs.Rests.{rest_of}
use Rattle.link_graph.proofs.LeadingReads.{seats_read}
use Rattle.link_graph.proofs.LeadingStretches.{stretch_inside, stretch_rest}
use Rattle.link_graph.proofs.NewLinks.{rest_known}
use Rattle.link_graph.proofs.new_links.next_new.Goals as goal

pub next_across-requires-clause-seat : goal.next_across-requires-clause-seat
next_across-requires-clause-seat c =
    let core = c.args.core.now in
    let e = seats_read core c.args.n c.index.result.now c.index.result.now c.requires.sound c.requires.node c.index.ensures refl in
    let at : Some c.in-Some.seat.now ≡ slice_get c.index.result.now c.args.k = c.in-Some.ensures in
    let there = subst (λ (ss : List Seat). slice_get ss c.args.k ≡ Some c.in-Some.seat.now) e (sym at) in
    member_at (seats_at core c.args.n) c.args.k c.in-Some.seat.now there

pub next_across-requires-clause-known : goal.next_across-requires-clause-known
unfolding network_in
next_across-requires-clause-known c =
    let core = c.args.core.now in
    let e = seats_read core c.args.n c.index.result.now c.index.result.now c.requires.sound c.requires.node c.index.ensures refl in
    let at : Some c.in-Some.seat.now ≡ slice_get c.index.result.now c.args.k = c.in-Some.ensures in
    let there = subst (λ (ss : List Seat). slice_get ss c.args.k ≡ Some c.in-Some.seat.now) e (sym at) in
    c.requires.known (stretch_of core c.in-Some.seat.now) (stretch_inside core c.args.n c.args.k c.in-Some.seat.now there)

pub returns-in-Some-clause-told : goal.returns-in-Some-clause-told
unfolding network_in
returns-in-Some-clause-told c = λ stretch here.
    let core = c.args.core.now in
    let e = seats_read core c.args.n c.index.result.now c.index.result.now c.requires.sound c.requires.node c.index.ensures refl in
    let at : Some c.in-Some.seat.now ≡ slice_get c.index.result.now c.args.k = c.in-Some.ensures in
    let there = subst (λ (ss : List Seat). slice_get ss c.args.k ≡ Some c.in-Some.seat.now) e (sym at) in
    let is = same_Some (stretch_of core c.in-Some.seat.now) stretch (sym (stretch_inside core c.args.n c.args.k c.in-Some.seat.now there) ∙ here) in
    subst (λ (t : Stretch). IfSome c.next_across.result (IsNewIn (network_in core) c.args.n t c.args.place)) is c.next_across.ensures.told

pub returns-in-Some-clause-passed : goal.returns-in-Some-clause-passed
unfolding network_in
returns-in-Some-clause-passed c = λ stretch here.
    let core = c.args.core.now in
    let e = seats_read core c.args.n c.index.result.now c.index.result.now c.requires.sound c.requires.node c.index.ensures refl in
    let at : Some c.in-Some.seat.now ≡ slice_get c.index.result.now c.args.k = c.in-Some.ensures in
    let there = subst (λ (ss : List Seat). slice_get ss c.args.k ≡ Some c.in-Some.seat.now) e (sym at) in
    let is = same_Some (stretch_of core c.in-Some.seat.now) stretch (sym (stretch_inside core c.args.n c.args.k c.in-Some.seat.now there) ∙ here) in
    subst (λ (t : Stretch). AreKnown (network_in core) c.args.n t c.args.known c.args.place c.next_across.result) is c.next_across.ensures.passed

pub returns-in-None-clause-told : goal.returns-in-None-clause-told
unfolding network_in
returns-in-None-clause-told c = λ stretch here.
    let core = c.args.core.now in
    let e = seats_read core c.args.n c.index.result.now c.index.result.now c.requires.sound c.requires.node c.index.ensures refl in
    let at : None ≡ slice_get c.index.result.now c.args.k = c.in-None.ensures in
    let nowhere = subst (λ (ss : List Seat). slice_get ss c.args.k ≡ None) e (sym at) in
    let there = stretch_rest core c.args.n c.args.k (rest_of core c.args.n).first (rest_of core c.args.n).count nowhere c.requires.stretch refl refl in
    subst (λ (t : Stretch). IfSome c.next_passage.result (IsNewIn (network_in core) c.args.n t c.args.place)) (same_Some (rest_of core c.args.n) stretch (sym there ∙ here)) c.next_passage.ensures.told

pub returns-in-None-clause-passed : goal.returns-in-None-clause-passed
unfolding network_in
returns-in-None-clause-passed c = λ stretch here.
    let core = c.args.core.now in
    let e = seats_read core c.args.n c.index.result.now c.index.result.now c.requires.sound c.requires.node c.index.ensures refl in
    let at : None ≡ slice_get c.index.result.now c.args.k = c.in-None.ensures in
    let nowhere = subst (λ (ss : List Seat). slice_get ss c.args.k ≡ None) e (sym at) in
    let there = stretch_rest core c.args.n c.args.k (rest_of core c.args.n).first (rest_of core c.args.n).count nowhere c.requires.stretch refl refl in
    let known = rest_known (network_in core) c.args.n c.args.place (rest_of core c.args.n) c.args.known c.next_passage.result (c.requires.known (rest_of core c.args.n) there) c.next_passage.ensures.passed in
    subst (λ (t : Stretch). AreKnown (network_in core) c.args.n t c.args.known c.args.place c.next_passage.result) (same_Some (rest_of core c.args.n) stretch (sym there ∙ here)) known
