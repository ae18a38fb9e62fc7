use Rattle.std.proofs.Common.{◌≡◌, ◌∙◌, pos, get_or, sym, true≢false}
use Rattle.std.proofs.lemmas.List.{get_or_default}
use Rattle.venue_types.proofs.Items.{Contains-nil}
use Rattle.opening_match.specs.declared.edges.Edge.{Edge}
use Rattle.opening_match.specs.Edges.{IsAtEdge}
use Rattle.opening_match.specs.Entries.{start_of}
use Rattle.opening_match.proofs.Gathering.{none_of_more, none_of_all}
use Rattle.opening_match.proofs.around.some_comes_near.Goals as goal

pub loop-edge-init : goal.loop-edge-init
loop-edge-init c = λ e box edge h. absurd (Contains-nil edge h)

pub loop-edge-preserved : goal.loop-edge-preserved
loop-edge-preserved c = λ e box.
    let t = c.args.sought.now.tolerance in
    let edges = c.args.sought.now.edges.now in
    let i = c.loop-edge.edge-index in
    let none : Edge = record { from = record { x = pos 0; y = pos 0 }; to = record { x = pos 0; y = pos 0 } } in
    let edge = get_or edges i none in
    let is : edge ≡ get_or edges i edge = get_or_default edges i none edge c.loop-edge-test.true in
    none_of_more (IsAtEdge t e) edges i edge c.loop-edge-test.true is (c.loop-edge.invariant e box)
    (λ at. true≢false (sym (c.comes_near.ensures (start_of e) box at.span at.close at.near) ∙ c.if-comes_near.false))

pub returns : goal.returns
returns c = λ e edge box has at. absurd (none_of_all (IsAtEdge c.args.sought.now.tolerance e) c.args.sought.now.edges.now c.loop-edge.edge-index c.loop-edge-test.false (c.loop-edge.invariant e box) edge has at)
