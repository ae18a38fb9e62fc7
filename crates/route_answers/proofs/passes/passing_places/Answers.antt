use Rattle.std.proofs.Common.{ℕ, Bool, sym, ◌∙◌, arith}
use Rattle.link_graph.specs.Graphs.{network}
use Rattle.route_answers.specs.Passing.{passes_node}
use Rattle.route_answers.proofs.MarkedPlaces.{none_marked, put_marked, left_marked}
use Rattle.route_answers.proofs.passes.passing_places.Goals as goal
use Rattle.route_answers.proofs.passes.passing_places.Goals.{then-may_pass, else-may_pass}

pub loop-i-init : goal.loop-i-init
loop-i-init c = none_marked (passes_node (network c.args.graph.now) c.args.profile.now) c.args.members.now c.args.size c.in_ok-mask.mask c.in_ok-mask.ensures

pub loop-i-preserved : goal.loop-i-preserved
loop-i-preserved c =
    let ok : ℕ → Bool = passes_node (network c.args.graph.now) c.args.profile.now in
    let members = c.args.members.now in
    let i = c.loop-i.i in
    let within = c.loop-i-test.true in
    let fits = c.requires.fits in
    elim c.if-may_pass.branch [
      | then-may_pass w ↦ put_marked ok members i c.args.size c.loop-i.mask c.if-may_pass.mask c.loop-i.invariant (omega (arith, within, fits)) (sym c.may_pass.ensures ∙ w.if-may_pass.true) (w.mask-is ∙ w.put.ensures)
      | else-may_pass w ↦ left_marked ok members i c.args.size c.loop-i.mask c.if-may_pass.mask c.loop-i.invariant (sym c.may_pass.ensures ∙ w.if-may_pass.false) w.mask-is
    ]
