use Rattle.test_history.proofs.copies.readers_find_what_was_published.Given as goal

abbrev pub invariant-loop-call : goal.invariant-loop-call
invariant-loop-call g l = Unit {0}
