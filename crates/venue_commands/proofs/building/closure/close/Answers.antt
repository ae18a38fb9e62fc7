use Rattle.std.proofs.Common.{◌≢◌, ◌<◌}
use Rattle.std.proofs.lemmas.Result.{IfOk-weaker}
use Rattle.venue_types.specs.declared.reply.Reply.TheVariants as told
use Rattle.version_board.specs.Halls.{facts_of}
use Rattle.version_board.specs.Closed.{Version}
use Rattle.version_board.specs.Histories.{Replays}
use Rattle.venue_commands.specs.Costs.{IsBehindChange}
use Rattle.venue_commands.proofs.Behind.{behind_change}
use Rattle.venue_commands.proofs.building.closure.close.Goals as goal

pub returns-clause-closed : goal.returns-clause-closed
returns-clause-closed c =
    let h = (facts_of c.args.hall.now).seen in
    let k = (facts_of c.changed-reply.new.hall).seen in
    let r = c.changed-reply.result in
    IfOk-weaker c.judged.result (λ _. r ≢ told.OutOfMemory)
    (λ _. (v w : Version) → v.number < v.settings.last_version → Replays h v → Replays k w → IsBehindChange c.args.feature v w)
    (λ _ some. behind_change c.entry_law.ensures (facts_of c.args.hall.now).files c.args.feature h k r some c.changed-reply.ensures.journalless c.changed-reply.ensures.changes) c.judged.ensures
