-- Where there is no room the version is the last.
use Rattle.std.proofs.Common.{◌≡◌, ◌<◌, ◌≤◌, arith}
use Rattle.std.specs.Arc.{arc_value}
use Rattle.std.proofs.lemmas.Bool.{both_ways}
use Rattle.venue_state.specs.Boards.{version_of}
use Rattle.venue_state.proofs.act_checks.judge.Goals as goal

pub returns-else-has_room-clause-unready : goal.returns-else-has_room-clause-unready
unfolding version_of
returns-else-has_room-clause-unready c =
    let stand = c.args.stand.now in
    let due = c.in_ok-judge_feature.ensures.due in
    let at : stand.number ≤ (arc_value stand.settings).last_version = c.requires.stands.number_is in
    let full : ¬ (stand.number < (arc_value stand.settings).last_version) = λ room. both_ways c.has_room.result c.if-has_room.false (c.has_room.ensures.1 room) in
    let last : stand.number ≡ (arc_value stand.settings).last_version = omega (arith, at, full) in
    (due.0, due.1, last)
