use Rattle.imdf_access.proofs.LinkParts.{parts}
use Rattle.imdf_access.proofs.parts.parts_law.Goals as goal

pub returns : goal.returns
returns c = parts
