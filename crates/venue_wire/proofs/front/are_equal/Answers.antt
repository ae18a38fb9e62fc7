use Rattle.std.proofs.Common.{arith}
use Rattle.venue_wire.proofs.KeyLemmas.{agrees_at_end, agrees_more}
use Rattle.venue_wire.proofs.front.are_equal.Goals as goal

pub loop-place-preserved : goal.loop-place-preserved
loop-place-preserved c =
    agrees_more c.loop-place.differences c.loop-place.place c.byte_at.result c.args.key.now c.args.value.now c.loop-place-test.true c.byte_at.ensures
    c.loop-place.invariant

pub returns : goal.returns
returns c =
    agrees_at_end c.loop-place.differences c.loop-place.place c.args.key.now c.args.value.now
    (omega (arith, c.loop-place-test.false, c.loop-place.auto.place-end)) c.loop-place.invariant
