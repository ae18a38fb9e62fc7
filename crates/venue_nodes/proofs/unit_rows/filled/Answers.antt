use Rattle.std.proofs.Common.{◌≡◌, length, take, arith}
use Rattle.venue_nodes.proofs.Seating.{none_seated, list_within, rows_few, nodes_few, rows_many, step, all_seated}
use Rattle.venue_nodes.proofs.unit_rows.filled.Goals as goal

pub loop-node-init : goal.loop-node-init
loop-node-init c = λ nodes are.
    none_seated c.args.walkables.now.ids.items _ c.in_ok-empty_rows.field-0.items c.new.result c.in_ok-empty_rows.ensures (omega arith) c.new.ensures

pub fill-requires-clause-within : goal.fill-requires-clause-within
fill-requires-clause-within c =
    let owns = c.args.walkables.now.ids.items in
    let nodes = c.requires.named.0 in
    let are = c.requires.named.1 in
    let filled = c.loop-node.invariant nodes are in
    let many : length owns ≡ length c.loop-node.filling.rows.items = rows_many owns (take c.loop-node.node nodes) c.loop-node.filling.rows.items filled.rows_are in
    list_within owns nodes c.args.named.now c.loop-node.node _ c.list.result.now are c.list.ensures (omega arith)

pub fill-requires-clause-few : goal.fill-requires-clause-few
fill-requires-clause-few c =
    let owns = c.args.walkables.now.ids.items in
    let nodes = c.requires.named.0 in
    let are = c.requires.named.1 in
    let filled = c.loop-node.invariant nodes are in
    rows_few owns (take c.loop-node.node nodes) c.loop-node.filling.rows.items filled.rows_are (nodes_few owns nodes c.args.named.now c.loop-node.node are c.requires.few)

pub loop-node-preserved : goal.loop-node-preserved
loop-node-preserved c = λ nodes are.
    step c.args.walkables.now.ids.items nodes c.args.named.now c.loop-node.node c.list.result.now c.loop-node.filling.rows.items _ c.loop-node.filling.seats _ are c.list.ensures
    (c.loop-node.invariant nodes are) c.in_ok-fill.ensures.rows c.in_ok-fill.ensures.seats

pub returns : goal.returns
returns c = λ nodes are.
    all_seated c.args.walkables.now.ids.items nodes c.args.named.now c.loop-node.node c.loop-node.filling.rows.items c.loop-node.filling.seats are (omega arith) (c.loop-node.invariant nodes are)
