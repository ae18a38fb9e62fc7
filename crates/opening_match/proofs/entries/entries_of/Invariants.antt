use Rattle.opening_match.specs.Entries.{AreFirst}
use Rattle.opening_match.proofs.entries.entries_of.Given as goal

-- the entries of the openings before
abbrev pub invariant-loop-place : goal.invariant-loop-place
invariant-loop-place l = AreFirst l.openings l.place l.entries.items
