use Rattle.venue_hall.proofs.Changed.{grown, last_by}
use Rattle.venue_hall.proofs.laws.changed_law.Goals as goal

pub returns-clause-grows : goal.returns-clause-grows
returns-clause-grows c old new asked r (h, before, changes) =
    grown old.seen h new.seen before (c.change_law.ensures.grows old.files old.worker asked h new.seen r changes)

pub returns-clause-last : goal.returns-clause-last
returns-clause-last c old new asked r (h, before, changes) one = last_by old.files old.worker asked h new.seen r one changes
