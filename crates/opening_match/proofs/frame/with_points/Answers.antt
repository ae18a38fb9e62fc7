use Rattle.opening_match.proofs.Framing.{grows_none, grows_point, grows_points}
use Rattle.opening_match.proofs.frame.with_points.Goals as goal

pub loop-p-init : goal.loop-p-init
loop-p-init c = grows_none c.args.frame

pub loop-p-preserved : goal.loop-p-preserved
loop-p-preserved c = grows_point c.args.points.now c.loop-p.p-index _ c.args.frame c.loop-p.grown _ c.loop-p-test.true c.loop-p.invariant c.with-grown.ensures

pub returns : goal.returns
returns c = grows_points c.args.points.now c.loop-p.p-index c.args.frame c.loop-p.grown c.loop-p-test.false c.loop-p.invariant
