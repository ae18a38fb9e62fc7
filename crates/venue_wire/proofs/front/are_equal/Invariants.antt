use Rattle.std.proofs.Common.{◌≡◌, ◌&&◌, nat_eq, drop}
use Rattle.venue_wire.proofs.KeyLemmas.{agrees}
use Rattle.venue_wire.proofs.front.are_equal.Given as goal

-- nothing differs so far and what is left agrees, where the whole key agrees
abbrev pub invariant-loop-place : goal.invariant-loop-place
invariant-loop-place l = (nat_eq l.differences 0 && agrees l.value l.place (drop l.place l.key)) ≡ agrees l.value 0 l.key
