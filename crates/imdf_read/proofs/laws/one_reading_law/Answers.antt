use Rattle.imdf_read.proofs.OneReading.{one_reading}
use Rattle.imdf_read.proofs.laws.one_reading_law.Goals as goal

pub returns : goal.returns
returns c files one other seventeen none a b =
    one_reading c.one_json_law.ensures files none c.one_point_law.ensures c.one_line_law.ensures c.one_shape_law.ensures one other a b
