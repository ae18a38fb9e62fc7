use Rattle.std.proofs.Common.{take}
use Rattle.opening_match.specs.Places.{ArePlaces}
use Rattle.opening_match.specs.Matches.{RunsAlong}
use Rattle.opening_match.proofs.candidates.places_along.Given as goal

-- those of the places before
abbrev pub invariant-loop-place : goal.invariant-loop-place
invariant-loop-place l = ArePlaces (λ o. o) (RunsAlong l.tolerance l.openings l.bands) (take l.place-index l.places) l.found.items
