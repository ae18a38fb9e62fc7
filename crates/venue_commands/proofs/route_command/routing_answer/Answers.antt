use Rattle.venue_commands.proofs.VenueMaking.{memory_cause}
use Rattle.venue_commands.proofs.RouteJudging.{route_stopped, is_routed}
use Rattle.venue_commands.proofs.route_command.routing_answer.Goals as goal

pub returns-in-Stopped-clause-told : goal.returns-in-Stopped-clause-told
returns-in-Stopped-clause-told g c =
    route_stopped (g.F.Folders.files c.args.folders.now) c.args.route.of.base.now c.args.route.of.folder.now c.args.route.profile.now c.args.route.from c.args.route.to c.in_ok-made.made c.in-Stopped.answer c.in_ok-made.ensures.told c.in-Stopped.is

pub returns-in-Venue-clause-told : goal.returns-in-Venue-clause-told
returns-in-Venue-clause-told g c =
    is_routed (g.F.Folders.files c.args.folders.now) c.args.route.of.base.now c.args.route.of.folder.now c.args.route.profile.now c.args.route.from c.args.route.to c.in_ok-made.made c.in-Venue.venue c.routed.result c.in_ok-made.ensures.told c.in-Venue.is
    c.routed.ensures.told

pub returns-in-Venue-clause-cause : goal.returns-in-Venue-clause-cause
returns-in-Venue-clause-cause g c =
    memory_cause (g.F.Folders.faults c.args.folders.now) (g.F.Folders.faults c.venue_of.new.folders) c.routed.result c.in_ok-made.ensures.cause.later c.in_ok-made.ensures.cause.kept c.routed.ensures.memory
