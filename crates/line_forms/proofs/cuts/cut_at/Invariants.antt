use Rattle.std.proofs.Common.{take}
use Rattle.line_forms.specs.Fronts.{Lacks}
use Rattle.line_forms.proofs.cuts.cut_at.Given as goal

abbrev pub invariant-loop-place : goal.invariant-loop-place
invariant-loop-place l = Lacks l.stop (take l.place l.text)
