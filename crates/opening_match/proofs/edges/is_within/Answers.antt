use Rattle.std.proofs.Common.{◌+ℤ◌, to_z, of_z, w64, arith}
use Rattle.std.specs.Int.{w128}
use Rattle.std.proofs.lemmas.Int.{ints}
use Rattle.plane_exact.proofs.SegmentLemmas.{le_test}
use Rattle.opening_match.proofs.edges.is_within.Goals as goal

pub returns : goal.returns
returns c =
    le_test (to_z w128 (of_z w128 (to_z w64 (of_z w64 c.args.m)))) (to_z w128 (of_z w128 (to_z w128 (of_z w128 (to_z w64 (of_z w64 c.args.n))) +ℤ to_z w128 (of_z w128 (to_z w64 (of_z w64 c.args.slack))))))
    c.args.m (c.args.n +ℤ c.args.slack) (omega (arith, ints)) (omega (arith, ints))
