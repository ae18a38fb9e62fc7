use Rattle.std.proofs.Common.{◌≡◌, length}
use Rattle.test_plane.proofs.joined.two_of_three.Given as goal

abbrev pub invariant-loop-j : goal.invariant-loop-j
invariant-loop-j l = length l.mask ≡ l.size
