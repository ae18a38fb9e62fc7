use Rattle.imdf_refs.proofs.Clean.{occupants_have_anchors}
use Rattle.imdf_refs.proofs.laws.occupant_anchor_law.Goals as goal

pub returns : goal.returns
returns c features nothing = occupants_have_anchors features nothing
