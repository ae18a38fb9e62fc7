use Rattle.std.proofs.Common.{◌≡◌}
use Rattle.std.specs.Prelude.{IfSome}
use Rattle.std.specs.Arc.{arc_value}
use Rattle.test_history.proofs.replays.judge_history.Given as goal

-- history and board stay under these settings
abbrev pub invariant-loop-row : goal.invariant-loop-row
invariant-loop-row g l = IfSome l.history (λ h. h.version.settings ≡ arc_value l.settings) × (l.board.settings ≡ arc_value l.settings)
