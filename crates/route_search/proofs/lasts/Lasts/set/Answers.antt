use Rattle.std.proofs.Common.{arith}
use Rattle.route_search.proofs.LastPlaces.{node_within, place_within, found_few, added, written}
use Rattle.route_search.proofs.lasts.Lasts.set.Goals as goal

pub index-place-requires : goal.index-place-requires
index-place-requires c =
    let inside = c.self.inside in
    omega (arith, node_within inside.found.items inside.places.items c.args.self.now c.args.node c.self.view_is c.requires, inside.places.ok.0)

pub overflow_cast-next : goal.overflow_cast-next
overflow_cast-next c =
    let inside = c.self.inside in
    let few = found_few inside.found.items inside.places.items c.args.self.now c.args.node c.index-place.result.now c.self.invariant c.self.view_is c.requires c.index-place.ensures c.if-place-eq0.true in
    omega (arith, few, c.len-next.ensures, inside.found.ok.0)

pub index_mut-requires : goal.index_mut-requires
index_mut-requires c =
    let inside = c.self.inside in
    omega (arith, node_within inside.found.items inside.places.items c.args.self.now c.args.node c.self.view_is c.requires, inside.places.ok.0)

pub invariant_of-self-then-place-eq0 : goal.invariant_of-self-then-place-eq0
invariant_of-self-then-place-eq0 c =
    let inside = c.self.inside in
    (added inside.found.items inside.places.items c.args.self.now c.push.new.self.items c.args.node c.index-place.result.now c.len-next.result c.args.last
    c.self.invariant c.self.view_is c.requires c.index-place.ensures c.if-place-eq0.true (omega (arith, c.len-next.ensures, inside.found.ok.0)) c.in_ok-push.ensures.items).apart

pub index_mut-requires-else-place-eq0 : goal.index_mut-requires-else-place-eq0
index_mut-requires-else-place-eq0 c =
    let inside = c.self.inside in
    let low = place_within inside.found.items inside.places.items c.args.self.now c.args.node c.index-place.result.now c.self.invariant c.self.view_is c.requires c.index-place.ensures in
    omega (arith, low, inside.found.ok.0)

pub invariant_of-self-else-place-eq0 : goal.invariant_of-self-else-place-eq0
invariant_of-self-else-place-eq0 c =
    let inside = c.self.inside in
    (written inside.found.items inside.places.items c.args.self.now c.args.node c.index-place.result.now c.args.last
    c.self.invariant c.self.view_is c.requires c.index-place.ensures c.if-place-eq0.false).apart

pub returns-in_ok-push : goal.returns-in_ok-push
returns-in_ok-push c =
    let inside = c.self.inside in
    (added inside.found.items inside.places.items c.args.self.now c.push.new.self.items c.args.node c.index-place.result.now c.len-next.result c.args.last
    c.self.invariant c.self.view_is c.requires c.index-place.ensures c.if-place-eq0.true (omega (arith, c.len-next.ensures, inside.found.ok.0)) c.in_ok-push.ensures.items).known

pub returns-else-place-eq0 : goal.returns-else-place-eq0
returns-else-place-eq0 c =
    let inside = c.self.inside in
    (written inside.found.items inside.places.items c.args.self.now c.args.node c.index-place.result.now c.args.last
    c.self.invariant c.self.view_is c.requires c.index-place.ensures c.if-place-eq0.false).known
