use Rattle.std.proofs.Common.{◌↔◌, ◌⊎◌, IsTrue, drop}
use Rattle.contain_rules.specs.Judging.{OneHolds}
use Rattle.contain_rules.proofs.rows.one_holds.Given as goal

-- where none of the units behind holds it, those ahead decide
abbrev pub invariant-loop-id : goal.invariant-loop-id
invariant-loop-id l = (IsTrue l.held ⊎ OneHolds l.features l.tolerance l.amenity.point (drop l.id-index l.ids)) ↔ OneHolds l.features l.tolerance l.amenity.point l.ids
