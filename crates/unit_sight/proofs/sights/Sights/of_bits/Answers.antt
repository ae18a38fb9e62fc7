use Rattle.unit_sight.proofs.Wholes.{whole_sized}
use Rattle.unit_sight.proofs.sights.Sights.of_bits.Goals as goal

pub returns-then-is_whole : goal.returns-then-is_whole
returns-then-is_whole c = whole_sized _ c.args.bits c.is_whole.result c.size-size.ensures.size c.size-size.ensures.square c.if-is_whole.true c.is_whole.ensures
