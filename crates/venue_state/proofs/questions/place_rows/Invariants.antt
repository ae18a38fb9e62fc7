use Rattle.std.proofs.Common.{◌≡◌, take}
use Rattle.venue_history.specs.Places.{places}
use Rattle.venue_state.proofs.questions.place_rows.Given as goal

abbrev pub invariant-loop-n : goal.invariant-loop-n
invariant-loop-n l = l.rows.items ≡ take l.n (places l.venue.features)
