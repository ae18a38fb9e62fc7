use Rattle.imdf_refs.proofs.Clean.{units_have_levels}
use Rattle.imdf_refs.proofs.laws.unit_level_law.Goals as goal

pub returns : goal.returns
returns c features nothing = units_have_levels features nothing
