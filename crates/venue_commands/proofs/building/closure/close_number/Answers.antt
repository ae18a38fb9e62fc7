use Rattle.std.proofs.Common.{◌∙◌, sym, ◌<◌}
use Rattle.std.proofs.lemmas.Result.{IfOk-weaker}
use Rattle.version_board.specs.Closed.{Version}
use Rattle.version_board.specs.Histories.{Replays}
use Rattle.version_board.specs.Halls.{facts_of}
use Rattle.venue_commands.specs.BuildingReports.{IsNamed, IsBehindClosing}
use Rattle.venue_commands.specs.Costs.{IsBehindChange}
use Rattle.venue_commands.proofs.Behind.{behind_number}
use Rattle.venue_commands.proofs.building.closure.close_number.Goals as goal

pub returns-in-Some-clause-closed : goal.returns-in-Some-clause-closed
returns-in-Some-clause-closed c =
    let h = (facts_of c.args.hall.now).seen in
    let k = (facts_of c.close.new.hall).seen in
    let id = c.in-Some.feature in
    let named : IsNamed c.args.number id = sym c.in_ok-feature.ensures ∙ c.in-Some.is in
    IfOk-weaker c.close.result (λ _. (v w : Version) → v.number < v.settings.last_version → Replays h v → Replays k w → IsBehindChange id v w)
    (λ _. (v w : Version) → v.number < v.settings.last_version → Replays h v → Replays k w → IsBehindClosing c.args.number v w)
    (λ _ is v w room before behind. behind_number c.args.number id v w named (is v w room before behind)) c.close.ensures.closed
