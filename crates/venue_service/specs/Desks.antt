-- The desk at the doors: how many connections are still to be accepted.
use Rattle.std.specs.Prelude.{ℕ, zero, suc, Bool}
use Rattle.venue_ports.specs.Causes.{one_more}

-- a count that was raised so often
abbrev pub raised : ℕ → ℕ → ℕ
raised zero count = count
raised (suc n) count = one_more (raised n count)

-- how many are left, whether an accept has failed, and what the doors tell
pub record DeskFacts : Type 0 where
  pub left : ℕ
  pub failed : Bool
  pub accepted : ℕ
  pub faults : ℕ
