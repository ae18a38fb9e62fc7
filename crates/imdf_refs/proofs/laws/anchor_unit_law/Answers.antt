use Rattle.imdf_refs.proofs.Clean.{anchors_have_units}
use Rattle.imdf_refs.proofs.laws.anchor_unit_law.Goals as goal

pub returns : goal.returns
returns c features nothing = anchors_have_units features nothing
