use Rattle.std.proofs.Common.{◌≡◌}
use Rattle.test_journal.proofs.workers.note.Given as goal

abbrev pub invariant-loop : goal.invariant-loop
invariant-loop g l = (g.H.Asks.facts l.seat).parts ≡ (g.H.Asks.facts l.initial.seat).parts
