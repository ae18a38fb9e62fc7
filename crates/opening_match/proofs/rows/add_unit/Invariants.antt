use Rattle.std.proofs.Common.{take}
use Rattle.opening_match.specs.Rows.{GainsUnit}
use Rattle.opening_match.proofs.rows.add_unit.Given as goal

-- the rows at the places before have gained the unit
abbrev pub invariant-loop-place : goal.invariant-loop-place
invariant-loop-place l = GainsUnit l.unit (take l.place-index l.places) l.initial.rows.items l.rows.items
