use Rattle.std.proofs.Common.{arith}
use Rattle.std.proofs.lemmas.Int.{ints}
use Rattle.plane_trees.specs.Line.{Longitude, Latitude, Rising, Falling}
use Rattle.plane_trees.proofs.octagons.Octagon.at.Goals as goal

pub returns : goal.returns
returns c Longitude = record { least = omega (arith, ints); greatest = omega (arith, ints) }
returns c Latitude = record { least = omega (arith, ints); greatest = omega (arith, ints) }
returns c Rising = record { least = omega (arith, ints); greatest = omega (arith, ints) }
returns c Falling = record { least = omega (arith, ints); greatest = omega (arith, ints) }
