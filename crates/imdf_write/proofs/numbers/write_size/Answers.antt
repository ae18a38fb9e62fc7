-- The whole degrees are written in front of the point.
use Rattle.std.proofs.Common.{arith}
use Rattle.imdf_write.proofs.Degrees.{whole_short, size_long, size_short}
use Rattle.imdf_write.proofs.numbers.write_size.Goals as goal

pub write_digits-requires : goal.write_digits-requires
write_digits-requires c = (
  omega (arith, whole_short c.args.size c.requires.few, c.requires.room.0, c.write_billionths-point.ensures.start),
  omega (arith, c.requires.room.1, c.write_billionths-point.ensures.start, c.write_billionths-point.auto.room),
)

pub returns-clause-start : goal.returns-clause-start
returns-clause-start c = omega (arith, size_long c.args.size, c.write_digits.ensures.start, c.write_billionths-point.ensures.start)

pub returns-clause-short : goal.returns-clause-short
returns-clause-short c = size_short c.args.size c.requires.few
