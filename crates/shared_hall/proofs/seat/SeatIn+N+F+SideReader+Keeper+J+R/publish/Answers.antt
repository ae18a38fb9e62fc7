use Rattle.std.proofs.Common.{subst}
use Rattle.std.specs.Arc.{arc_value}
use Rattle.venue_types.specs.declared.settings.Settings.{Settings}
use Rattle.venue_hall.specs.Built.{IsVenueOf}
use Rattle.board_copies.specs.Making.{IsUnmade}
use Rattle.shared_hall.proofs.Judging.{judged_at, unmade_changes}
use Rattle.shared_hall.proofs.seat.SeatIn+N+F+SideReader+Keeper+J+R.publish.Goals as goal

-- the files were judged by the settings of what the seat has seen
pub publish_judged-requires-clause-judged : goal.publish_judged-requires-clause-judged
publish_judged-requires-clause-judged g c =
    let it = c.in-Ok.field-0 in
    let venue = c.in-Ok-judge_files.venue in
    judged_at c.read_folder.new.self.seen (arc_value it.settings) it.files venue c.in-Ok.ensures.settings
    (subst (λ (s : Settings). IsVenueOf it.files s (arc_value venue)) c.deref.ensures c.in-Ok-judge_files.ensures.venue)

-- a folder that makes no venue is answered at the history that was seen when it was read
pub returns-in-Err-judge_files-clause-reply : goal.returns-in-Err-judge_files-clause-reply
returns-in-Err-judge_files-clause-reply g c =
    let old = c.args.self.now in
    let seen = c.read_folder.new.self.seen in
    let it = c.in-Ok.field-0 in
    let reply = c.in-Err-judge_files.reply in
    let at = c.legal_law.ensures seen c.in-Ok.ensures.looked.legal in
    let unmade : IsUnmade it.files (arc_value it.settings) reply = subst (λ (s : Settings). IsUnmade it.files s reply) c.deref.ensures c.in-Err-judge_files.ensures.unmade in
    (seen, c.in-Ok.ensures.looked.grows, unmade_changes old.files at.0 old.worker c.args.folder.now seen (arc_value it.settings) it.files reply at.1 c.in-Ok.ensures.settings c.in-Ok.ensures.read unmade)
