use Rattle.std.proofs.Common.{◌↔◌, Any, drop}
use Rattle.ring_rules.specs.Judged.{IsOutside}
use Rattle.ring_rules.proofs.holes.has_outside.Given as goal

-- the positions ahead decide, since none of those behind is outside
abbrev pub invariant-loop-p : goal.invariant-loop-p
invariant-loop-p l = Any (IsOutside l.ring) (drop l.p-index l.points) ↔ Any (IsOutside l.ring) l.points
