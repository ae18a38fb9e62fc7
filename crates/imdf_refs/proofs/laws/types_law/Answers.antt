use Rattle.imdf_refs.proofs.Typed.{name_their_types}
use Rattle.imdf_refs.proofs.laws.types_law.Goals as goal

pub returns : goal.returns
returns c features nothing = name_their_types features nothing
