use Rattle.std.proofs.Common.{◌≡◌, ◌≤◌, ◌-ℤ◌, unsigned_abs, to_z, of_z, w64, ap, ◌∙◌, arith}
use Rattle.std.proofs.lemmas.Int.{ints}
use Rattle.plane_exact.proofs.LengthLemmas.{square_of_length, square_bound}
use Rattle.plane_exact.proofs.lengths.stretch_square.Goals as goal

pub returns-clause-value : goal.returns-clause-value
returns-clause-value c =
    let way : to_z w64 (of_z w64 (to_z w64 (of_z w64 c.args.n) -ℤ to_z w64 (of_z w64 c.args.m))) ≡ c.args.n -ℤ c.args.m = omega (arith, ints) in
    square_of_length (c.args.n -ℤ c.args.m) c.unsigned_abs.result c.args.k (c.unsigned_abs.ensures.value ∙ ap unsigned_abs way)

pub returns-clause-range : goal.returns-clause-range
returns-clause-range c =
    let within : c.unsigned_abs.result ≤ 400000000 = omega (arith, ints) in
    square_bound c.unsigned_abs.result c.args.k within c.requires.range
