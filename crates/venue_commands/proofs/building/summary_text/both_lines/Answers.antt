use Rattle.std.proofs.Common.{string_bytes, List, subst, sym}
use Rattle.version_board.specs.Entry.{Entry}
use Rattle.version_board.specs.Histories.{Replays}
use Rattle.venue_commands.proofs.building.summary_text.both_lines.Goals as goal

pub returns : goal.returns
returns c v stands = record {
  rolling = string_bytes c.in_ok-rolling.rolling;
  rolling_is = c.in_ok-rolling.ensures.line v stands;
  walking = string_bytes c.in_ok-walking.walking;
  walking_is = c.in_ok-walking.ensures.line v (subst (λ (h : List Entry). Replays h v) (sym c.in_ok-rolling.ensures.same) stands);
  spelled = c.in_ok-text.ensures.ok;
}
