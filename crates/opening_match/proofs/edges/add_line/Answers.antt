use Rattle.std.proofs.Common.{pos, ◌+◌, List, ◌∷◌, get_or, drop, sym, subst}
use Rattle.plane_exact.specs.Figure.{edges_from}
use Rattle.opening_match.specs.declared.edges.Edge.{Edge}
use Rattle.opening_match.proofs.EdgeLists.{Leads, leads_edge, leads_line}
use Rattle.opening_match.proofs.edges.add_line.Goals as goal

pub loop-to-init : goal.loop-to-init
loop-to-init c = λ new adds. adds

pub loop-to-preserved : goal.loop-to-preserved
loop-to-preserved c =
    let start = c.args.start in
    let rest = c.args.rest.now in
    let i = c.loop-to.to-index in
    let old = c.args.list.now.items in
    let more = leads_edge start c.loop-to.from rest i (record { x = pos 0; y = pos 0 }) old c.loop-to.list.items c.loop-to-test.true c.loop-to.invariant in
    let to = get_or rest i (record { x = pos 0; y = pos 0 }) in
    subst (λ (items : List Edge). Leads old (edges_from start rest) (start ∷ rest) items (edges_from to (drop (i + 1) rest)) (to ∷ drop (i + 1) rest)) (sym c.in_ok-push.ensures.items) more

pub returns : goal.returns
returns c = leads_line c.args.start c.loop-to.from c.args.rest.now c.loop-to.to-index c.args.list.now.items c.loop-to.list.items c.loop-to-test.false c.loop-to.invariant
