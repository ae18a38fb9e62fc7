use Rattle.std.proofs.Common.{◌≡◌, ◌++◌, replicate}
use Rattle.link_graph.proofs.doors.add_copies.Given as goal

-- so many are added
abbrev pub invariant-loop : goal.invariant-loop
invariant-loop l = l.doors.items ≡ l.initial.doors.items ++ replicate l.counter l.door
