use Rattle.std.proofs.Common.{◌≡◌, ◌<◌, ◌+◌, ℕ, length, sym, subst, arith}
use Rattle.std.proofs.lemmas.Option.{slice_get_within}
use Rattle.link_graph.specs.declared.stretches.Stretch.{Stretch}
use Rattle.link_graph.specs.Detours.{IsNewIn}
use Rattle.link_graph.specs.Graphs.{network}
use Rattle.route_search.proofs.Along.{of_stretch}
use Rattle.route_search.specs.States.{cost_in}
use Rattle.route_search.specs.Scans.{CanPass, IsAmid, node_count}
use Rattle.route_search.proofs.Looked.{cost_read, cheap_link, nothing_cheap, on_ok}
use Rattle.route_search.proofs.Scanned.{followed_one}
use Rattle.route_search.proofs.node_scan.look.Goals as goal

pub lower_new-requires-clause-base : goal.lower_new-requires-clause-base
lower_new-requires-clause-base g c =
    let within : c.args.at.now.node < length c.args.state.now.costs.items = omega (arith, c.requires.stretch.node, c.requires.amid.tree.costs_count) in
    let base : c.index-cost.result.now ≡ cost_in c.args.state.now c.args.at.now.node = cost_read c.args.state.now.costs.items c.args.at.now.node _ _ within c.index-cost.ensures in
    omega (arith, base, c.requires.amid.room.cost_room, c.requires.amid.tree.few)

pub lower_new-requires-clause-stretch : goal.lower_new-requires-clause-stretch
lower_new-requires-clause-stretch g c = slice_get_within ((network c.args.ways.now.graph.now).stretches c.args.at.now.node) c.args.at.now.k c.args.at.now.stretch c.requires.stretch.here

pub lower_new-requires-clause-found : goal.lower_new-requires-clause-found
lower_new-requires-clause-found g c =
    of_stretch (network c.args.ways.now.graph.now) c.args.at.now (λ (s : Stretch). IsNewIn (network c.args.ways.now.graph.now) c.args.at.now.node s 0 c.args.found) c.requires.stretch c.requires.found

pub follow-requires-clause-there : goal.follow-requires-clause-there
follow-requires-clause-there g c =
    let costs = c.args.state.now.costs.items in
    let within : c.args.at.now.node < length costs = omega (arith, c.requires.stretch.node, c.requires.amid.tree.costs_count) in
    let base : c.index-cost.result.now ≡ cost_in c.args.state.now c.args.at.now.node = cost_read costs c.args.at.now.node _ _ within c.index-cost.ensures in
    (cheap_link (network c.args.ways.now.graph.now) c.args.at.now.node c.args.found.place _ c.args.state.now _ (omega (arith, c.requires.found.within, c.requires.stretch.within))
    (λ l is. omega (arith, c.range_law.ensures.to l is, c.requires.amid.tree.costs_count)) c.deref.ensures.value base c.in-Some.link c.in-Some.ensures.link).there

pub follow-requires-clause-cheap : goal.follow-requires-clause-cheap
follow-requires-clause-cheap g c =
    let costs = c.args.state.now.costs.items in
    let within : c.args.at.now.node < length costs = omega (arith, c.requires.stretch.node, c.requires.amid.tree.costs_count) in
    let base : c.index-cost.result.now ≡ cost_in c.args.state.now c.args.at.now.node = cost_read costs c.args.at.now.node _ _ within c.index-cost.ensures in
    let is = cheap_link (network c.args.ways.now.graph.now) c.args.at.now.node c.args.found.place _ c.args.state.now _ (omega (arith, c.requires.found.within, c.requires.stretch.within))
    (λ l is. omega (arith, c.range_law.ensures.to l is, c.requires.amid.tree.costs_count)) c.deref.ensures.value base c.in-Some.link c.in-Some.ensures.link in
    subst (λ (k : ℕ). cost_in c.args.state.now k + c.in-Some.link.cost < cost_in c.args.state.now c.in-Some.link.to) (sym is.at) is.cheap

pub follow-requires-clause-amid : goal.follow-requires-clause-amid
follow-requires-clause-amid g c =
    let costs = c.args.state.now.costs.items in
    let within : c.args.at.now.node < length costs = omega (arith, c.requires.stretch.node, c.requires.amid.tree.costs_count) in
    let base : c.index-cost.result.now ≡ cost_in c.args.state.now c.args.at.now.node = cost_read costs c.args.at.now.node _ _ within c.index-cost.ensures in
    let is = cheap_link (network c.args.ways.now.graph.now) c.args.at.now.node c.args.found.place _ c.args.state.now _ (omega (arith, c.requires.found.within, c.requires.stretch.within))
    (λ l is. omega (arith, c.range_law.ensures.to l is, c.requires.amid.tree.costs_count)) c.deref.ensures.value base c.in-Some.link c.in-Some.ensures.link in
    subst (λ (k : ℕ). IsAmid (network c.args.ways.now.graph.now) (CanPass c.args.ways.now) (node_count c.args.ways.now.graph.now) k c.args.state.now) (sym is.at) c.requires.amid

pub returns-in-Some-clause-scanned : goal.returns-in-Some-clause-scanned
returns-in-Some-clause-scanned g c =
    let costs = c.args.state.now.costs.items in
    let within : c.args.at.now.node < length costs = omega (arith, c.requires.stretch.node, c.requires.amid.tree.costs_count) in
    let base : c.index-cost.result.now ≡ cost_in c.args.state.now c.args.at.now.node = cost_read costs c.args.at.now.node _ _ within c.index-cost.ensures in
    let is = cheap_link (network c.args.ways.now.graph.now) c.args.at.now.node c.args.found.place _ c.args.state.now _ (omega (arith, c.requires.found.within, c.requires.stretch.within))
    (λ l is. omega (arith, c.range_law.ensures.to l is, c.requires.amid.tree.costs_count)) c.deref.ensures.value base c.in-Some.link c.in-Some.ensures.link in
    on_ok c.follow.result (λ followed. followed_one (network c.args.ways.now.graph.now) (CanPass c.args.ways.now) (node_count c.args.ways.now.graph.now) c.args.at.now.node c.args.found.place c.in-Some.link c.args.state.now c.follow.new.state is.here is.at followed) c.follow.ensures

pub returns-in-None-clause-scanned : goal.returns-in-None-clause-scanned
returns-in-None-clause-scanned g c =
    let costs = c.args.state.now.costs.items in
    let within : c.args.at.now.node < length costs = omega (arith, c.requires.stretch.node, c.requires.amid.tree.costs_count) in
    let base : c.index-cost.result.now ≡ cost_in c.args.state.now c.args.at.now.node = cost_read costs c.args.at.now.node _ _ within c.index-cost.ensures in
    nothing_cheap (network c.args.ways.now.graph.now) c.args.at.now.node c.args.found.place _ c.args.state.now _ (omega (arith, c.requires.found.within, c.requires.stretch.within))
    (λ l is. omega (arith, c.range_law.ensures.to l is, c.requires.amid.tree.costs_count)) c.deref.ensures.value base
    (CanPass c.args.ways.now) (node_count c.args.ways.now.graph.now) c.requires.amid c.in-None.ensures.link
