use Rattle.std.proofs.Common.{arith}
use Rattle.std.proofs.lemmas.Int.{ints, clamps}
use Rattle.opening_match.proofs.edges.apart.Goals as goal

pub returns-clause-exact : goal.returns-clause-exact
returns-clause-exact c = λ close. omega (arith, ints, clamps)

pub returns-clause-above : goal.returns-clause-above
returns-clause-above c = λ n close less. omega (arith, ints, clamps)

pub returns-clause-below : goal.returns-clause-below
returns-clause-below c = λ n close more. omega (arith, ints, clamps)
