use Rattle.std.proofs.Common.{◌≡◌, map, take}
use Rattle.opening_match.specs.Morton.{entry_of}
use Rattle.opening_match.proofs.morton.plain_of.Given as goal

-- the entries before, without their codes
abbrev pub invariant-loop-one : goal.invariant-loop-one
invariant-loop-one l = l.list.items ≡ map entry_of (take l.one-index l.coded)
