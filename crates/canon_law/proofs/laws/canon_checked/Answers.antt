use Rattle.std.proofs.Common.{refl}
use Rattle.writing_law.specs.Written.{written}
use Rattle.canon_law.specs.Rewritten.{rewritten}
use Rattle.canon_law.proofs.Venues.{written_venue}
use Rattle.canon_law.proofs.laws.canon_checked.Goals as goal

pub returns-clause-venue : goal.returns-clause-venue
returns-clause-venue c files settings venue seventeen is limit =
    written_venue files settings venue is (c.writer_law.ensures.nothing files venue.features seventeen is.rows is.first limit)
    (c.writer_law.ensures.same files venue.features seventeen is.rows is.first limit)
    (λ x. c.notes_law.ensures files venue.features x seventeen is.rows is.first limit)

pub returns-clause-only : goal.returns-clause-only
returns-clause-only c files settings venue again seventeen is limit made =
    c.one_outcome.ensures.one_venue (written venue.features) settings again (rewritten venue) refl made (returns-clause-venue c files settings venue seventeen is limit)

pub returns-clause-accepted : goal.returns-clause-accepted
returns-clause-accepted c files settings venue report seventeen is limit rejected =
    c.one_outcome.ensures.not_both (written venue.features) settings report (rewritten venue) refl rejected (returns-clause-venue c files settings venue seventeen is limit)
