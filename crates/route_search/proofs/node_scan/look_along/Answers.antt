use Rattle.std.proofs.Common.{arith}
use Rattle.std.proofs.lemmas.Option.{slice_get_within}
use Rattle.link_graph.specs.declared.stretches.Stretch.{Stretch}
use Rattle.link_graph.specs.Detours.{HasLinkAcross}
use Rattle.link_graph.specs.Graphs.{network}
use Rattle.link_graph.specs.Marking.{marked}
use Rattle.route_search.specs.Scans.{CanPass, node_count}
use Rattle.route_search.proofs.Along.{of_stretch, starts_of, starts_later, along_none, along_all, along_more}
use Rattle.route_search.proofs.Covers.{out_few}
use Rattle.route_search.proofs.Detours.{start_across}
use Rattle.route_search.proofs.node_scan.look_along.Goals as goal

pub links-init : goal.links-init
links-init g c = along_none (network c.args.ways.now.graph.now) (CanPass c.args.ways.now) (node_count c.args.ways.now.graph.now) c.args.at.now c.args.steps.now c.args.state.now c.requires.amid

pub next_new-requires-clause-stretch : goal.next_new-requires-clause-stretch
next_new-requires-clause-stretch g c = slice_get_within ((network c.args.ways.now.graph.now).stretches c.args.at.now.node) c.args.at.now.k c.args.at.now.stretch c.requires.stretch.here

pub next_new-requires-clause-known : goal.next_new-requires-clause-known
next_new-requires-clause-known g c =
    let given = network c.args.ways.now.graph.now in
    let at = c.args.at.now in
    let known = c.known_start-known.result in
    let starts = starts_later given (CanPass c.args.ways.now) (node_count c.args.ways.now.graph.now) at c.links.place c.args.steps.now c.links.steps c.args.state.now c.links.state c.links.invariant known
    (starts_of c.args.state.now at.node at.stretch.way known c.get.result c.get.ensures c.known_start-known.ensures) in
    of_stretch given at (λ (s : Stretch). HasLinkAcross given s.way known) c.requires.stretch
    (start_across given (CanPass c.args.ways.now) (node_count c.args.ways.now.graph.now) at.node at.stretch c.links.state c.links.invariant.scanned.amid (λ l is. is.there) known starts)

pub overflow_add-place : goal.overflow_add-place
overflow_add-place g c =
    let told = c.in-Some.ensures.told c.args.at.now.stretch c.requires.stretch.here in
    omega (arith, told.within, c.requires.stretch.within, out_few (network c.args.ways.now.graph.now) c.args.at.now.node, c.range_law.ensures.links)

pub links-preserved : goal.links-preserved
links-preserved g c =
    let given = network c.args.ways.now.graph.now in
    let at = c.args.at.now in
    let known = c.known_start-known.result in
    let here = c.requires.stretch.here in
    along_more given (CanPass c.args.ways.now) (node_count c.args.ways.now.graph.now) at c.links.place c.args.steps.now c.links.steps c.args.state.now c.links.state c.links.invariant known
    (starts_of c.args.state.now at.node at.stretch.way known c.get.result c.get.ensures c.known_start-known.ensures)
    (c.detour_law.ensures (marked given c.args.ways.now.marks.now c.args.ways.now.number) c.args.ways.now.profile.now) (λ l is. c.range_law.ensures.apart l is.there)
    (c.stretch_law.ensures at.node c.requires.stretch.node) c.requires.stretch c.in-Some.found c.look.new.steps c.look.new.state
    (c.in-Some.ensures.told at.stretch here) (c.in-Some.ensures.passed at.stretch here) c.in_ok-look.ensures.scanned c.in_ok-look.ensures.step

pub returns-clause-scanned : goal.returns-clause-scanned
returns-clause-scanned g c =
    let given = network c.args.ways.now.graph.now in
    let at = c.args.at.now in
    let known = c.known_start-known.result in
    along_all given (CanPass c.args.ways.now) (node_count c.args.ways.now.graph.now) at c.links.place c.args.steps.now c.links.steps c.args.state.now c.links.state c.links.invariant known
    (starts_of c.args.state.now at.node at.stretch.way known c.get.result c.get.ensures c.known_start-known.ensures)
    (c.detour_law.ensures (marked given c.args.ways.now.marks.now c.args.ways.now.number) c.args.ways.now.profile.now) (λ l is. c.range_law.ensures.apart l is.there)
    (c.stretch_law.ensures at.node c.requires.stretch.node) c.requires.stretch (c.in_default.ensures.passed at.stretch c.requires.stretch.here)
