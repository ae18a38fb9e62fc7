use Rattle.std.proofs.Common.{◌≡◌, take}
use Rattle.venue_build.proofs.place_feature.copied.Given as goal

abbrev pub invariant-loop-label : goal.invariant-loop-label
invariant-loop-label l = l.copies ≡ take l.label-index l.labels
