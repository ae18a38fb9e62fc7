use Rattle.imdf_refs.proofs.Clean.{amenities_have_units}
use Rattle.imdf_refs.proofs.laws.amenity_unit_law.Goals as goal

pub returns : goal.returns
returns c features nothing = amenities_have_units features nothing
