use Rattle.std.proofs.Common.{◌≡◌}
use Rattle.test_journal.proofs.halls.judge_rows.Given as goal

abbrev pub invariant-loop-row : goal.invariant-loop-row
invariant-loop-row g l =
    ((g.H.Asks.facts l.one).parts ≡ (g.H.Asks.facts l.initial.one).parts)
    × ((g.H.Asks.facts l.other).parts ≡ (g.H.Asks.facts l.initial.other).parts)
