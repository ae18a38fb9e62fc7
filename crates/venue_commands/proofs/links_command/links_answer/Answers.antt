use Rattle.venue_commands.proofs.VenueMaking.{memory_cause}
use Rattle.venue_commands.proofs.CheckJudging.{links_stopped, is_linked}
use Rattle.venue_commands.proofs.links_command.links_answer.Goals as goal

pub returns-in-Stopped-clause-told : goal.returns-in-Stopped-clause-told
returns-in-Stopped-clause-told g c =
    links_stopped (g.F.Folders.files c.args.folders.now) c.args.links.of.base.now c.args.links.of.folder.now c.args.links.profile.now c.in_ok-made.made c.in-Stopped.answer c.in_ok-made.ensures.told c.in-Stopped.is

pub returns-in-Venue-clause-told : goal.returns-in-Venue-clause-told
returns-in-Venue-clause-told g c =
    is_linked (g.F.Folders.files c.args.folders.now) c.args.links.of.base.now c.args.links.of.folder.now c.args.links.profile.now c.in_ok-made.made c.in-Venue.venue c.linked.result c.in_ok-made.ensures.told c.in-Venue.is
    c.linked.ensures.told

pub returns-in-Venue-clause-cause : goal.returns-in-Venue-clause-cause
returns-in-Venue-clause-cause g c =
    memory_cause (g.F.Folders.faults c.args.folders.now) (g.F.Folders.faults c.venue_of.new.folders) c.linked.result c.in_ok-made.ensures.cause.later c.in_ok-made.ensures.cause.kept c.linked.ensures.memory
