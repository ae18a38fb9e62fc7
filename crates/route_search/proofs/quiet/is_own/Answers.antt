use Rattle.std.proofs.Common.{◌≡◌, Bool, true, false, not, Option, Some, None, IsTrue, is_some, refl, sym, ◌∙◌, subst}
use Rattle.std.proofs.lemmas.Option.{same_Some}
use Rattle.venue_types.proofs.Items.{member_at}
use Rattle.link_graph.specs.declared.new_links.NewLink.{NewLink}
use Rattle.link_graph.specs.declared.stretches.Stretch.{Stretch}
use Rattle.link_graph.specs.declared.stretches.Way.{Way}
use Rattle.link_graph.specs.Detours.{AreKnown}
use Rattle.link_graph.specs.Graphs.{network}
use Rattle.route_search.specs.Scans.{IsAcross, IsOwn}
use Rattle.route_search.proofs.Covers.{own_known}
use Rattle.route_search.proofs.quiet.is_own.Goals as goal

nothing : (found : Option NewLink) (b : Bool) → is_some found ≡ not b → IsTrue b → found ≡ None
nothing None b same on = refl
nothing (Some found) true same on = absurd cc
nothing (Some found) false same on = absurd cc

pub returns-then-via-link : goal.returns-then-via-link
returns-then-via-link c on stretch here =
    let given = network c.args.graph.now in
    let it = c.stretch-stretch.result in
    let known : AreKnown given c.args.node it (Some c.args.link.now.from) it.first None = subst (λ (found : Option NewLink). AreKnown given c.args.node it (Some c.args.link.now.from) it.first found)
    (nothing c.next_new.result c.is_none.result c.is_none.ensures on) (c.next_new.ensures.passed it c.stretch-stretch.ensures) in
    let across : IsAcross c.args.link.now.via it.way = subst (λ (w : Way). IsAcross c.args.link.now.via w) (sym c.in-Inside.is) c.if-via-link.true in
    subst (λ (s : Stretch). IsOwn given c.args.link.now.via c.args.link.now.from c.args.node s) (same_Some it stretch (sym c.stretch-stretch.ensures ∙ here))
    (own_known given c.args.link.now.via c.args.link.now.from c.args.node it (c.stretch_law.ensures c.args.node c.requires.node) (member_at (given.stretches c.args.node) c.args.k it c.stretch-stretch.ensures) across known)
