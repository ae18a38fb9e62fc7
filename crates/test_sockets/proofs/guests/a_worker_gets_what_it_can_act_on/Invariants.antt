use Rattle.std.proofs.Common.{◌≡◌, true}
use Rattle.test_sockets.proofs.guests.a_worker_gets_what_it_can_act_on.Given as goal

-- the doors stay bound
abbrev pub invariant-loop-sent : goal.invariant-loop-sent
invariant-loop-sent g l = l.doors.is_bound ≡ true
