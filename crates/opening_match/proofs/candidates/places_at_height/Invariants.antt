use Rattle.std.proofs.Common.{take}
use Rattle.opening_match.specs.declared.entries.Entry.{Entry}
use Rattle.opening_match.specs.Frames.{IsAtHeight}
use Rattle.opening_match.specs.Places.{ArePlaces}
use Rattle.opening_match.proofs.candidates.places_at_height.Given as goal

-- the places of the entries before
abbrev pub invariant-loop-entry : goal.invariant-loop-entry
invariant-loop-entry l = ArePlaces (λ (e : Entry). e.place) (λ (e : Entry). IsAtHeight l.frame l.tolerance e.y) (take l.entry-index l.entries) l.places.items
