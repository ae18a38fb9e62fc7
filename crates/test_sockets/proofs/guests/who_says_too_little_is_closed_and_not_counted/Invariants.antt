use Rattle.std.proofs.Common.{◌≡◌, true}
use Rattle.test_sockets.proofs.guests.who_says_too_little_is_closed_and_not_counted.Given as goal

-- the doors stay bound
abbrev pub invariant-loop-seconds : goal.invariant-loop-seconds
invariant-loop-seconds g l = l.doors.is_bound ≡ true
