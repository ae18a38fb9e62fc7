use Rattle.std.proofs.Common.{arith}
use Rattle.std.proofs.lemmas.Int.{ints}
use Rattle.plane_trees.specs.Line.{Longitude, Latitude, Rising, Falling}
use Rattle.plane_trees.proofs.octagons.offset_of.Goals as goal

pub overflow_add-result : goal.overflow_add-result
overflow_add-result c = omega (arith, ints)

pub overflow_sub-result : goal.overflow_sub-result
overflow_sub-result c = omega (arith, ints)

pub returns-clause-value : goal.returns-clause-value
returns-clause-value c Longitude = omega (arith, ints)
returns-clause-value c Latitude = omega (arith, ints)
returns-clause-value c Rising = omega (arith, ints)
returns-clause-value c Falling = omega (arith, ints)

pub returns-clause-range : goal.returns-clause-range
returns-clause-range c Longitude = record { above = omega (arith, ints); below = omega (arith, ints) }
returns-clause-range c Latitude = record { above = omega (arith, ints); below = omega (arith, ints) }
returns-clause-range c Rising = record { above = omega (arith, ints); below = omega (arith, ints) }
returns-clause-range c Falling = record { above = omega (arith, ints); below = omega (arith, ints) }
