use Rattle.std.proofs.Common.{◌≡◌}
use Rattle.std.specs.Arc.{arc_value}
use Rattle.test_history.proofs.profiles.judge_under.Given as goal

-- the board stays under these settings
abbrev pub invariant-loop-row : goal.invariant-loop-row
invariant-loop-row g l = l.board.settings ≡ arc_value l.settings
