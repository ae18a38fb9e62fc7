use Rattle.venue_build.proofs.Silent.{named, close, placed, roomy}
use Rattle.venue_build.proofs.law.every_venue.Goals as goal

pub returns-clause-sound : goal.returns-clause-sound
returns-clause-sound c = c.valid_law.ensures.sound

pub returns-clause-silent : goal.returns-clause-silent
returns-clause-silent c = c.valid_law.ensures.unbroken

pub returns-clause-named : goal.returns-clause-named
returns-clause-named c = let venue = c.args.venue.now in named venue.features venue.settings c.valid_law.ensures.unbroken

pub returns-clause-close : goal.returns-clause-close
returns-clause-close c = let venue = c.args.venue.now in close venue.features venue.settings c.valid_law.ensures.unbroken

pub returns-clause-placed : goal.returns-clause-placed
returns-clause-placed c = let venue = c.args.venue.now in placed venue.features venue.settings c.valid_law.ensures.unbroken

pub returns-clause-roomy : goal.returns-clause-roomy
returns-clause-roomy c = let venue = c.args.venue.now in roomy venue.features venue.settings c.valid_law.ensures.unbroken
