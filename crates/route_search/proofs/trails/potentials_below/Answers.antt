use Rattle.std.proofs.Common.{◌+◌, ◌≤◌, ◌<◌, ℕ, [], ◌∷◌, ◌++◌, sym, subst, ap, ◌∙◌, arith}
use Rattle.route_search.specs.Labels.{cost_at}
use Rattle.route_search.specs.Trails.{ArePotentialsBelow}
use Rattle.route_search.proofs.TrailLists.{potentials_push, potentials_skip, cost_read}
use Rattle.route_search.proofs.trails.potentials_below.Goals.{then-value-limit+in_ok-push, else-value-limit}
use Rattle.route_search.proofs.trails.potentials_below.Goals as goal

pub loop-node-preserved : goal.loop-node-preserved
loop-node-preserved c =
    let here = cost_read c.args.costs.now c.loop-node.node c.loop-node-test.true in
    elim c.if-value-limit.branch [
      | then-value-limit+in_ok-push w ↦
          let cheap : cost_at c.args.costs.now c.loop-node.node < c.args.limit = omega (arith, here, w.if-value-limit.true) in
          let entry = ap (λ (v : ℕ). c.loop-node.listed ++ record { node = c.loop-node.node; value = v } ∷ []) (sym here) in
          subst (ArePotentialsBelow c.args.costs.now c.args.limit (c.loop-node.node + 1)) (sym (w.listed-is ∙ w.in_ok-push.ensures.ok ∙ entry))
          (potentials_push c.args.costs.now c.args.limit c.loop-node.node c.loop-node.listed cheap c.loop-node.invariant)
      | else-value-limit w ↦
          let dear : c.args.limit ≤ cost_at c.args.costs.now c.loop-node.node = omega (arith, here, w.if-value-limit.false) in
          subst (ArePotentialsBelow c.args.costs.now c.args.limit (c.loop-node.node + 1)) (sym w.listed-is)
          (potentials_skip c.args.costs.now c.args.limit c.loop-node.node c.loop-node.listed dear c.loop-node.invariant)
    ]
