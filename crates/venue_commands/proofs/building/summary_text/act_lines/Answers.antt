use Rattle.std.proofs.Common.{string_bytes, List, subst, sym}
use Rattle.version_board.specs.Entry.{Entry}
use Rattle.version_board.specs.Histories.{Replays}
use Rattle.venue_commands.proofs.Summing.{acted}
use Rattle.venue_commands.proofs.building.summary_text.act_lines.Goals as goal

pub returns : goal.returns
returns c v room stands =
    let found = c.in_ok-later.ensures in
    let w = found.0 in
    let between = subst (λ (h : List Entry). Replays h v) (sym c.in_ok-before.ensures.same) stands in
    acted c.args.levels c.room_number-start.result c.room_number-finish.result c.lift_number.result v w (string_bytes c.in_ok-before.before) (string_bytes c.in_ok-later.later)
    (string_bytes c.in_ok-text.text) c.room_number-start.ensures c.room_number-finish.ensures c.lift_number.ensures
    (c.in_ok-close_number.ensures.closed v w room between found.1.0) (c.in_ok-before.ensures.line v stands) found.1.1 c.in_ok-text.ensures.ok
