use Rattle.std.proofs.Common.{◌≡◌, ◌++◌, drop}
use Rattle.venue_history.specs.Closed.{names_from}
use Rattle.venue_state.proofs.profile_names.names_of.Given as goal

-- the names so far, and those of the profiles that are left
abbrev pub invariant-loop-number : goal.invariant-loop-number
invariant-loop-number l = l.names ++ names_from l.number (drop l.number l.settings.profiles) l.set ≡ names_from 0 l.settings.profiles l.set
