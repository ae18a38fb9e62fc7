use Rattle.std.specs.Arc.{arc_value}
use Rattle.journal_restore.proofs.Ends.{ends_whole}
use Rattle.journal_restore.proofs.ending.end_of_many.Goals as goal

pub returns-in-Ok-clause-end : goal.returns-in-Ok-clause-end
returns-in-Ok-clause-end g c =
    let settings = arc_value c.args.settings.now in
    let is = c.in_ok-place.ensures in
    ends_whole c.damage_law.ensures.closed c.damage_law.ensures.read c.version_law.ensures.all_settings settings c.args.reader.now.length c.in_ok-place.field-0
    c.in-Ok.resumed (g.K.Disk.moments c.go_on.new.reader.disk) is.at is.told.settled is.whole c.in-Ok.ensures
