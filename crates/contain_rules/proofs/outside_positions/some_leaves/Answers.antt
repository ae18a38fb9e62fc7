use Rattle.std.proofs.Common.{refl}
use Rattle.plane_exact.proofs.SegmentLemmas.{iff_along}
use Rattle.contain_rules.specs.Rules.{IsHeld}
use Rattle.contain_rules.proofs.Lists.{past}
use Rattle.contain_rules.proofs.outside_positions.some_leaves.Goals as goal

pub loop-p-preserved : goal.loop-p-preserved
loop-p-preserved c =
    iff_along (past (λ p. ¬ IsHeld c.args.tolerance c.args.shape.now p) c.args.points.now c.loop-p.p-index _ _ c.loop-p-test.true refl (λ none. none (c.if-not-is_held.ensures.0 refl)))
    c.loop-p.invariant
