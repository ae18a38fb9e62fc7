use Rattle.venue_program.specs.Kept.{disk_fault}
use Rattle.venue_program.proofs.Hosting.{told_either}
use Rattle.venue_program.proofs.stopping.tell_disk.Goals as goal

pub returns-clause-told : goal.returns-clause-told
returns-clause-told g c =
    let printed = c.write_all.ensures in
    told_either _ disk_fault c.write_all.result printed.ok printed.err printed.cause.kept printed.cause.failed
