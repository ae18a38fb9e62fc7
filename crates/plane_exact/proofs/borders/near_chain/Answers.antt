use Rattle.std.proofs.Common.{refl}
use Rattle.std.proofs.lemmas.Bool.{false≢true}
use Rattle.plane_exact.proofs.BorderLemmas.{chain_here, chain_past}
use Rattle.plane_exact.proofs.SegmentLemmas.{iff_along}
use Rattle.plane_exact.proofs.NearbyLemmas.{start_close, edge_close, end_close, chain_step}
use Rattle.plane_exact.proofs.borders.near_chain.Goals as goal

pub near_edge-requires-clause-edge : goal.near_edge-requires-clause-edge
near_edge-requires-clause-edge c = edge_close c.args.p c.loop-b.a c.args.rest.now c.loop-b.b-index _ c.loop-b-test.true c.loop-b.invariant.close

pub near_edge-requires-clause-from_start : goal.near_edge-requires-clause-from_start
near_edge-requires-clause-from_start c = start_close c.args.p c.loop-b.a _ c.loop-b.invariant.close

pub near_edge-requires-clause-from_end : goal.near_edge-requires-clause-from_end
near_edge-requires-clause-from_end c = end_close c.args.p c.loop-b.a c.args.rest.now c.loop-b.b-index _ c.loop-b-test.true c.loop-b.invariant.close

pub returns-then-near_edge : goal.returns-then-near_edge
returns-then-near_edge c =
    let here = chain_here c.args.p c.loop-b.a c.args.t c.args.rest.now c.loop-b.b-index _ c.loop-b-test.true (c.if-near_edge.ensures.0 refl) in
    (λ _. c.loop-b.invariant.ahead.0 here, λ _. refl)

pub loop-b-preserved : goal.loop-b-preserved
loop-b-preserved c = record {
  close = chain_step c.args.p c.loop-b.a c.args.rest.now c.loop-b.b-index _ c.loop-b-test.true c.loop-b.invariant.close;
  ahead = iff_along (chain_past c.args.p c.loop-b.a c.args.t c.args.rest.now c.loop-b.b-index _ c.loop-b-test.true (λ h. false≢true (c.if-near_edge.ensures.1 h))) c.loop-b.invariant.ahead;
}
