use Rattle.std.proofs.Common.{ap₂, ◌*ℤ◌}
use Rattle.plane_exact.specs.Plane.{square}
use Rattle.plane_exact.proofs.NumberLemmas.{wide_square_of, read_back}
use Rattle.plane_exact.proofs.numbers.wide_square.Goals as goal

pub returns : goal.returns
unfolding square
returns c =
    let parts = wide_square_of c.args.n c.requires in
    read_back _ _ _ (ap₂ ◌*ℤ◌ parts.1 parts.1) parts.0
