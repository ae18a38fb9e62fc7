use Rattle.std.proofs.Common.{◌≡◌, [], ◌∷◌, ◌++◌, ◌-◌, length, take}
use Rattle.plane_exact.specs.Corners.{before_last}
use Rattle.plane_exact.proofs.turns.last_other.Given as goal

-- what is passed over from the end equals the last point
abbrev pub invariant-loop-i : goal.invariant-loop-i
invariant-loop-i l = before_last l.first l.first (take (length l.line - l.i) l.line ++ l.last ∷ []) ≡ before_last l.first l.first (l.line ++ l.last ∷ [])
