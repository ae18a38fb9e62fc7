use Rattle.venue_commands.proofs.VenueMaking.{memory_cause}
use Rattle.venue_commands.proofs.CanonJudging.{canon_stopped, canon_written}
use Rattle.venue_commands.proofs.canon_command.canon_answer.Goals as goal

pub returns-in-Stopped-clause-told : goal.returns-in-Stopped-clause-told
returns-in-Stopped-clause-told g c =
    canon_stopped (g.F.Folders.files c.args.folders.now) c.args.canon.of.base.now c.args.canon.of.folder.now c.args.canon.file c.in_ok-made.made c.in-Stopped.answer c.in_ok-made.ensures.told c.in-Stopped.is

pub returns-in-Venue-clause-told : goal.returns-in-Venue-clause-told
returns-in-Venue-clause-told g c =
    canon_written (g.F.Folders.files c.args.folders.now) c.args.canon.of.base.now c.args.canon.of.folder.now c.args.canon.file c.in_ok-made.made c.in-Venue.venue c.written.result c.in_ok-made.ensures.told
    c.in-Venue.is c.written.ensures.text c.written.ensures.status

pub returns-in-Venue-clause-cause : goal.returns-in-Venue-clause-cause
returns-in-Venue-clause-cause g c =
    memory_cause (g.F.Folders.faults c.args.folders.now) (g.F.Folders.faults c.venue_of.new.folders) c.written.result c.in_ok-made.ensures.cause.later c.in_ok-made.ensures.cause.kept c.written.ensures.memory
