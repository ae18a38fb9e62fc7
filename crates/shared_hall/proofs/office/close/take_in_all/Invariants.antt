use Rattle.std.proofs.Common.{◌≡◌, ◌+◌, All}
use Rattle.shared_hall.specs.Offices.{parts_of, made_of, Begins}
use Rattle.shared_hall.proofs.office.close.take_in_all.Given as goal

abbrev pub invariant-loop-pass : goal.invariant-loop-pass
invariant-loop-pass g l =
    (l.office ≡ l.initial.office)
    × (l.all.parts + parts_of l.passes.items ≡ l.initial.all.parts + parts_of l.initial.passes.items)
    × (l.all.amount + made_of l.passes.items ≡ l.initial.all.amount + made_of l.initial.passes.items)
    × (All (Begins l.initial.office.entries) l.passes.items → All (Begins l.initial.office.entries) l.initial.passes.items)

abbrev pub decreases-loop-pass : goal.decreases-loop-pass
decreases-loop-pass g l = goal.left-loop-pass g l
