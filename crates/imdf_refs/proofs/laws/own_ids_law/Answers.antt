use Rattle.imdf_refs.proofs.OwnIds.{each_its_own}
use Rattle.imdf_refs.proofs.laws.own_ids_law.Goals as goal

pub returns : goal.returns
returns c features none = each_its_own features none
