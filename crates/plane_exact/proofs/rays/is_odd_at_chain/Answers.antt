use Rattle.std.proofs.Common.{◌∙◌, sym}
use Rattle.plane_exact.proofs.NearbyLemmas.{start_close, edge_close, chain_step}
use Rattle.plane_exact.proofs.ParityLemmas.{chain_met, chain_missed}
use Rattle.plane_exact.proofs.rays.is_odd_at_chain.Goals as goal
use Rattle.plane_exact.proofs.rays.is_odd_at_chain.Goals.{then-meets, else-meets}

pub meets-requires-clause-edge : goal.meets-requires-clause-edge
meets-requires-clause-edge c = edge_close c.args.p c.loop-b.a c.args.rest.now c.loop-b.b-index _ c.loop-b-test.true c.loop-b.invariant.close

pub meets-requires-clause-close : goal.meets-requires-clause-close
meets-requires-clause-close c = start_close c.args.p c.loop-b.a _ c.loop-b.invariant.close

pub loop-b-preserved : goal.loop-b-preserved
loop-b-preserved c = record {
  close = chain_step c.args.p c.loop-b.a c.args.rest.now c.loop-b.b-index _ c.loop-b-test.true c.loop-b.invariant.close;
  parity = elim c.if-meets.branch [
    | then-meets w ↦ chain_met c.args.p c.loop-b.a c.args.rest.now c.loop-b.b-index _ c.loop-b.odd c.if-meets.odd _ c.loop-b-test.true (sym c.meets.ensures ∙ w.if-meets.true) w.odd-is c.loop-b.invariant.parity
    | else-meets w ↦ chain_missed c.args.p c.loop-b.a c.args.rest.now c.loop-b.b-index _ c.loop-b.odd c.if-meets.odd _ c.loop-b-test.true (sym c.meets.ensures ∙ w.if-meets.false) w.odd-is c.loop-b.invariant.parity
  ];
}
