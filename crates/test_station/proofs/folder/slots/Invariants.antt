use Rattle.std.proofs.Common.{◌≡◌, length}
use Rattle.test_station.proofs.folder.slots.Given as goal

abbrev pub invariant-loop-file : goal.invariant-loop-file
invariant-loop-file l = length l.slots.items ≡ l.file-index
