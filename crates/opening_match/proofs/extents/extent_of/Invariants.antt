use Rattle.std.proofs.Common.{take}
use Rattle.opening_match.specs.Extents.{IsRound}
use Rattle.opening_match.proofs.extents.extent_of.Given as goal

-- it lies round the entries before
abbrev pub invariant-loop-entry : goal.invariant-loop-entry
invariant-loop-entry l = IsRound l.extent (take l.entry-index l.entries)
