use Rattle.opening_match.proofs.Growing.{round_none, round_more, round_all}
use Rattle.opening_match.proofs.extents.extent_of.Goals as goal

pub loop-entry-init : goal.loop-entry-init
loop-entry-init c = round_none _

pub loop-entry-preserved : goal.loop-entry-preserved
loop-entry-preserved c = round_more c.loop-entry.extent c.at.result _ c.args.entries.now c.loop-entry.entry-index _ c.loop-entry-test.true c.at.ensures c.with-extent.ensures.first c.with-extent.ensures.second c.loop-entry.invariant

pub returns : goal.returns
returns c = round_all c.loop-entry.extent c.args.entries.now c.loop-entry.entry-index c.loop-entry-test.false c.loop-entry.invariant
