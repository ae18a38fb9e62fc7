use Rattle.std.proofs.Common.{◌+◌, ◌≤◌, ◌<◌, sym, subst, ◌∙◌, arith}
use Rattle.route_search.specs.Labels.{cost_at}
use Rattle.route_search.specs.Trails.{AreNodesBelow}
use Rattle.route_search.proofs.TrailLists.{nodes_push, nodes_skip, cost_read}
use Rattle.route_search.proofs.trails.nodes_below.Goals.{then-cost-limit+in_ok-push, else-cost-limit}
use Rattle.route_search.proofs.trails.nodes_below.Goals as goal

pub loop-node-preserved : goal.loop-node-preserved
loop-node-preserved c =
    let here = cost_read c.args.costs.now c.loop-node.node c.loop-node-test.true in
    elim c.if-cost-limit.branch [
      | then-cost-limit+in_ok-push w ↦
          let cheap : cost_at c.args.costs.now c.loop-node.node < c.args.limit = omega (arith, here, w.if-cost-limit.true) in
          subst (AreNodesBelow c.args.costs.now c.args.limit (c.loop-node.node + 1)) (sym (w.nodes-is ∙ w.in_ok-push.ensures.ok))
          (nodes_push c.args.costs.now c.args.limit c.loop-node.node c.loop-node.nodes cheap c.loop-node.invariant)
      | else-cost-limit w ↦
          let dear : c.args.limit ≤ cost_at c.args.costs.now c.loop-node.node = omega (arith, here, w.if-cost-limit.false) in
          subst (AreNodesBelow c.args.costs.now c.args.limit (c.loop-node.node + 1)) (sym w.nodes-is)
          (nodes_skip c.args.costs.now c.args.limit c.loop-node.node c.loop-node.nodes dear c.loop-node.invariant)
    ]
