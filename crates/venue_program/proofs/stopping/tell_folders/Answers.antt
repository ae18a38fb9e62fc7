use Rattle.venue_commands.specs.Ends.{folder_fault}
use Rattle.venue_program.proofs.Hosting.{told_either}
use Rattle.venue_program.proofs.stopping.tell_folders.Goals as goal

pub returns-clause-told : goal.returns-clause-told
returns-clause-told g c =
    let printed = c.write_all.ensures in
    told_either _ folder_fault c.write_all.result printed.ok printed.err printed.cause.kept printed.cause.failed
