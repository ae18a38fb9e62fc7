use Rattle.std.proofs.Common.{◌≡◌, true}
use Rattle.test_sockets.proofs.guests.who_waits_is_served_while_others_come.Given as goal

-- the doors stay bound
abbrev pub invariant-loop-turn : goal.invariant-loop-turn
invariant-loop-turn g l = l.doors.is_bound ≡ true
