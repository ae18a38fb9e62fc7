use Rattle.imdf_refs.proofs.Clean.{openings_have_levels}
use Rattle.imdf_refs.proofs.laws.opening_level_law.Goals as goal

pub returns : goal.returns
returns c features nothing = openings_have_levels features nothing
