use Rattle.std.proofs.Common.{◌≡◌, ◌-◌}
use Rattle.std.specs.Arc.{arc_value}
use Rattle.venue_ports.specs.Moments.{Now}
use Rattle.journal_restore.specs.Going.{HasTold, IsAt, IsReadTo}
use Rattle.journal_restore.proofs.going_on.go_on.Given as goal

abbrev pub invariant-loop-so_far : goal.invariant-loop-so_far
invariant-loop-so_far g l =
    IsAt (arc_value l.settings) l.reader.length l.so_far
    × HasTold (g.K.Disk.moments l.initial.reader.disk) (g.K.Disk.moments l.reader.disk)
    × (g.K.Disk.faults l.reader.disk ≡ g.K.Disk.faults l.initial.reader.disk)
    × (l.reader.length ≡ l.initial.reader.length)
    × Now (λ m. IsReadTo (arc_value l.settings) l.so_far m.reads) (g.K.Disk.moments l.reader.disk)

abbrev pub decreases-loop-so_far : goal.decreases-loop-so_far
decreases-loop-so_far g l = l.reader.length - l.so_far.place
