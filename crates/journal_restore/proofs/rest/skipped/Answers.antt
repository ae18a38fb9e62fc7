use Rattle.std.proofs.Common.{subst}
use Rattle.venue_ports.specs.Moments.{Moment, Now}
use Rattle.venue_hall.specs.Records.{Logged}
use Rattle.change_journal.specs.Places.{IsRecordAt}
use Rattle.change_journal.specs.Readers.{IsSkippedAt}
use Rattle.change_journal.specs.declared.found.Skipped.{Skipped}
use Rattle.journal_restore.specs.Going.{IsBegun, IsLonger}
use Rattle.journal_restore.proofs.OnlyRead.{now_joins}
use Rattle.journal_restore.proofs.Records.{longer_one}
use Rattle.journal_restore.proofs.rest.skipped.Goals as goal

pub returns-in-Ok-Record-clause-longer : goal.returns-in-Ok-Record-clause-longer
returns-in-Ok-Record-clause-longer g c =
    let place = c.args.place in
    let next = c.in-Ok-Record.next in
    let moments = g.K.Disk.moments c.args.reader.now.disk in
    let P : Skipped → Type 0 = λ found. Now (λ (m : Moment). IsSkippedAt place found m.reads) moments in
    let there = subst P c.in-Ok-Record.field-0-is c.in-Ok-Record.ensures.skipped in
    λ begun is. now_joins (λ (m : Moment). IsBegun place begun m.reads) (λ m. (entry : Logged) × IsRecordAt place next entry m.reads)
    (λ m. IsLonger next begun m.reads) moments
    (λ m is at. longer_one c.damage_law.ensures.longer place next begun at.0 m.reads is at.1) is there
