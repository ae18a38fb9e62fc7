use Rattle.std.proofs.Common.{take}
use Rattle.opening_match.specs.Around.{AddsOfLevel}
use Rattle.opening_match.proofs.around.add_level.Given as goal

-- those of the entries before are added
abbrev pub invariant-loop-entry : goal.invariant-loop-entry
invariant-loop-entry l = AddsOfLevel l.level (take l.entry-index l.entries) l.initial.places.items l.places.items
