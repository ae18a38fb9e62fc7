use Rattle.std.proofs.Common.{◌≡◌, length}
use Rattle.venue_state.specs.Touring.{AreFlagsOf}
use Rattle.venue_state.proofs.tour_ends.flags_of.Given as goal

abbrev pub invariant-loop-node : goal.invariant-loop-node
invariant-loop-node l = record { long : length l.flags.items ≡ l.all; flagged : AreFlagsOf l.nodes l.flags.items }
