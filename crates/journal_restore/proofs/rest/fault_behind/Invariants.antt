use Rattle.std.proofs.Common.{◌≡◌, ◌<◌, ◌-◌, List}
use Rattle.venue_ports.specs.Moments.{Now}
use Rattle.venue_hall.specs.Records.{Logged}
use Rattle.journal_restore.specs.Going.{HasTold, IsBegun, IsLonger}
use Rattle.journal_restore.proofs.rest.fault_behind.Given as goal

abbrev pub invariant-records : goal.invariant-records
invariant-records g l =
    (l.gate < l.reader.length)
    × HasTold (g.K.Disk.moments l.initial.reader.disk) (g.K.Disk.moments l.reader.disk)
    × (g.K.Disk.faults l.reader.disk ≡ g.K.Disk.faults l.initial.reader.disk)
    × (l.reader.length ≡ l.initial.reader.length)
    × ((begun : List Logged) → Now (λ m. IsBegun l.fn.place begun m.reads) (g.K.Disk.moments l.initial.reader.disk)
    → Now (λ m. IsLonger l.gate begun m.reads) (g.K.Disk.moments l.initial.reader.disk))

abbrev pub decreases-records : goal.decreases-records
decreases-records g l = l.reader.length - l.gate
