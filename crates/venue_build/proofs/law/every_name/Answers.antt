use Rattle.std.proofs.Common.{refl}
use Rattle.venue_build.proofs.law.every_name.Goals as goal

pub returns-clause-openings : goal.returns-clause-openings
returns-clause-openings c = c.opening_level_law.ensures c.args.venue.now.features c.every_venue.ensures.named

pub returns-clause-units : goal.returns-clause-units
returns-clause-units c = c.unit_level_law.ensures c.args.venue.now.features c.every_venue.ensures.named

pub returns-clause-anchors : goal.returns-clause-anchors
returns-clause-anchors c = c.anchor_unit_law.ensures c.args.venue.now.features c.every_venue.ensures.named

pub returns-clause-amenities : goal.returns-clause-amenities
returns-clause-amenities c = c.amenity_unit_law.ensures c.args.venue.now.features c.every_venue.ensures.named

pub returns-clause-occupants : goal.returns-clause-occupants
returns-clause-occupants c = c.occupant_anchor_law.ensures c.args.venue.now.features c.every_venue.ensures.named

-- a spread would be a finding of the third phase
pub returns-clause-close : goal.returns-clause-close
returns-clause-close c =
    c.no_spread_law.ensures c.args.venue.now.features
    (λ spread. c.every_venue.ensures.close (record { rule = 26; file = 0; index = 0; member = 0 })
    (record { spread = spread; rule = refl; in_file = refl; at_index = refl; at_member = refl }))
