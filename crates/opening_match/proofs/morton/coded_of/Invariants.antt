use Rattle.std.proofs.Common.{◌≡◌, map, take}
use Rattle.opening_match.specs.Morton.{entry_of}
use Rattle.opening_match.proofs.morton.coded_of.Given as goal

-- the entries before, with their codes
abbrev pub invariant-loop-entry : goal.invariant-loop-entry
invariant-loop-entry l = map entry_of l.list.items ≡ take l.entry-index l.entries
