use Rattle.venue_commands.proofs.VenueMaking.{memory_cause}
use Rattle.venue_commands.proofs.CheckJudging.{check_stopped, check_accepted}
use Rattle.venue_commands.proofs.check_command.check_answer.Goals as goal

pub returns-in-Stopped-clause-told : goal.returns-in-Stopped-clause-told
returns-in-Stopped-clause-told g c =
    check_stopped (g.F.Folders.files c.args.folders.now) c.args.of.base.now c.args.of.folder.now c.in_ok-made.made c.in-Stopped.answer c.in_ok-made.ensures.told c.in-Stopped.is

pub returns-in-Venue-clause-told : goal.returns-in-Venue-clause-told
returns-in-Venue-clause-told g c =
    check_accepted (g.F.Folders.files c.args.folders.now) c.args.of.base.now c.args.of.folder.now c.in_ok-made.made c.in-Venue.venue c.accepted.result c.in_ok-made.ensures.told c.in-Venue.is
    c.accepted.ensures.text c.accepted.ensures.status

pub returns-in-Venue-clause-cause : goal.returns-in-Venue-clause-cause
returns-in-Venue-clause-cause g c =
    memory_cause (g.F.Folders.faults c.args.folders.now) (g.F.Folders.faults c.venue_of.new.folders) c.accepted.result c.in_ok-made.ensures.cause.later c.in_ok-made.ensures.cause.kept c.accepted.ensures.memory
