use Rattle.std.proofs.Common.{ℕ, List, length, sym, subst}
use Rattle.link_graph.specs.Graphs.{network}
use Rattle.link_graph.specs.Marking.{marked}
use Rattle.link_graph.specs.Networks.{IsPassable}
use Rattle.nearest_place.specs.Entries.{AreFlags}
use Rattle.nearest_place.specs.Near.{IsNear}
use Rattle.nearest_place.proofs.FlagLemmas.{enough_targets}
use Rattle.nearest_place.proofs.search.nearest.Goals as goal

pub answer-requires-clause-enough : goal.answer-requires-clause-enough
answer-requires-clause-enough g c =
    enough_targets c.in_ok-known.known c.as_slice-targets.result.now c.deref.result.now c.args.limit
    (subst (AreFlags c.as_slice-targets.result.now) (sym c.deref.ensures.value) c.in_ok-flags.ensures) c.in_ok-known.ensures.enough

pub returns-clause-near : goal.returns-clause-near
returns-clause-near g c =
    let given = network c.args.graph.now in
    let closed = marked given c.args.marks.now c.args.number in
    let nodes = length given.nodes in
    subst (λ (targets : List ℕ). IsNear (IsPassable given closed c.args.profile.now) nodes c.args.from targets c.args.limit c.in_ok-near.near) c.as_slice-targets.ensures
    (c.in_ok-near.ensures.near given closed c.args.profile.now nodes c.args.from c.in_ok-known.ensures.over c.in_ok-known.ensures.small)

pub returns-clause-small : goal.returns-clause-small
returns-clause-small g c = c.in_ok-near.ensures.small (length (network c.args.graph.now).nodes) c.in_ok-known.ensures.small
