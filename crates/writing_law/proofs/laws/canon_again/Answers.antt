use Rattle.std.proofs.Common.{refl, ap}
use Rattle.imdf_write.specs.Folder.{canonical}
use Rattle.writing_law.specs.Written.{written}
use Rattle.writing_law.proofs.laws.canon_again.Goals as goal

-- what is written has one reading
pub returns : goal.returns
returns c files features again seventeen are none limit back =
    ap canonical (c.one_reading_law.ensures (written features) again features refl (c.writer_law.ensures.nothing files features seventeen are none limit) back
    (c.writer_law.ensures.same files features seventeen are none limit))
