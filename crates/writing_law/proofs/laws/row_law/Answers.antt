-- Each clause is a lemma of its own.
use Rattle.writing_law.proofs.Rows.{plain_back, amenity_back, anchor_back, building_back, detail_back, fixture_back, footprint_back, kiosk_back, level_back, occupant_back, opening_back, relationship_back, unit_back, venue_back}
use Rattle.writing_law.proofs.laws.row_law.Goals as goal

pub returns-clause-plain : goal.returns-clause-plain
returns-clause-plain c = plain_back

pub returns-clause-amenity : goal.returns-clause-amenity
returns-clause-amenity c = amenity_back

pub returns-clause-anchor : goal.returns-clause-anchor
returns-clause-anchor c = anchor_back

pub returns-clause-building : goal.returns-clause-building
returns-clause-building c = building_back

pub returns-clause-detail : goal.returns-clause-detail
returns-clause-detail c = detail_back

pub returns-clause-fixture : goal.returns-clause-fixture
returns-clause-fixture c = fixture_back

pub returns-clause-footprint : goal.returns-clause-footprint
returns-clause-footprint c = footprint_back

pub returns-clause-kiosk : goal.returns-clause-kiosk
returns-clause-kiosk c = kiosk_back

pub returns-clause-level : goal.returns-clause-level
returns-clause-level c = level_back

pub returns-clause-occupant : goal.returns-clause-occupant
returns-clause-occupant c = occupant_back

pub returns-clause-opening : goal.returns-clause-opening
returns-clause-opening c = opening_back

pub returns-clause-relationship : goal.returns-clause-relationship
returns-clause-relationship c = relationship_back

pub returns-clause-unit : goal.returns-clause-unit
returns-clause-unit c = unit_back

pub returns-clause-venue : goal.returns-clause-venue
returns-clause-venue c = venue_back
