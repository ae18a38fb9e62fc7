use Rattle.std.proofs.Common.{ℤ, ap₂}
use Rattle.venue_types.specs.declared.point.Point.{Point}
use Rattle.plane_exact.proofs.ScalingLemmas.{times_back}
use Rattle.plane_exact.proofs.scaling.times.Goals as goal

point : ℤ → ℤ → Point
point x y = record { x = x; y = y }

pub returns : goal.returns
unfolding point
returns c = ap₂ point (times_back c.args.k c.args.p.x c.requires.factor c.requires.range.x) (times_back c.args.k c.args.p.y c.requires.factor c.requires.range.y)
