-- What a disk in memory and disks in memory tell.
use Rattle.std.specs.Prelude.{◌≡◌, ◌⊎◌, ℕ, ◌<◌, List, Option, Some, None, Bool, IsTrue, length, take, min, slice_get}
use Rattle.venue_ports.specs.DiskCalls.{DiskRecord, record_moments, is_full, bytes_left}
use Rattle.venue_ports.specs.Files.{StoredFile}
use Rattle.venue_ports.specs.Moments.{Moment}
use Rattle.venue_ports.specs.Plans.{Plan, FailsNext}
use Rattle.venue_ports.specs.Stored.{stored_files}
use Rattle.venue_ports.specs.declared.memory_disk.MemoryDisk.{MemoryDisk}
use Rattle.venue_ports.specs.declared.memory_disks.MemoryDisks.{MemoryDisks}

-- all its calls, beside its first content
abbrev pub disk_record : MemoryDisk → DiskRecord
disk_record disk = disk.calls

abbrev pub disk_moments : MemoryDisk → List Moment
disk_moments disk = record_moments (disk_record disk)

-- which calls are to fail
abbrev pub disk_plan : MemoryDisk → Plan
disk_plan disk = disk.plan

-- how many bytes each write that fails puts all the same, by its number among them
abbrev pub disk_puts : MemoryDisk → List ℕ
disk_puts disk = disk.puts.items

abbrev pub disk_failed_writes : MemoryDisk → ℕ
disk_failed_writes disk = disk.failed_writes

abbrev pub disk_faults : MemoryDisk → ℕ
disk_faults disk = disk.faults

-- the next call, which is to put so many bytes, finds no room for itself or for them, or is to fail
abbrev pub FailsCall : MemoryDisk → ℕ → Type 0
FailsCall disk put = IsTrue (is_full (disk_record disk)) ⊎ FailsNext (disk_plan disk) ⊎ (bytes_left (disk_record disk) < put)

abbrev pub or_none : Option ℕ → ℕ
or_none None = 0
or_none (Some count) = count

-- how many bytes of so many the next write puts that fails, as far as there is room
abbrev pub next_torn : MemoryDisk → ℕ → ℕ
next_torn disk count = min (or_none (slice_get (disk_puts disk) (disk_failed_writes disk))) (min count (bytes_left (disk_record disk)))

abbrev pub disks_files : MemoryDisks → Option (List StoredFile)
disks_files disks = Some (stored_files disks.files.items)

abbrev pub disks_opens : MemoryDisks → Option ℕ
disks_opens disks = Some disks.opens

abbrev pub disks_opened : MemoryDisks → Option (List ℕ × List ℕ)
disks_opened disks = Some (take disks.base_len disks.base, take disks.name_len disks.name)

-- the room that no disk has yet
abbrev pub disks_spare : MemoryDisks → Option DiskRecord
disks_spare disks = disks.spare

abbrev pub disks_failing : MemoryDisks → List ℕ
disks_failing disks = disks.failing.items

abbrev pub disks_never_open : MemoryDisks → Bool
disks_never_open disks = disks.never_open

abbrev pub disks_puts : MemoryDisks → List ℕ
disks_puts disks = disks.puts.items

abbrev pub disks_faults : MemoryDisks → ℕ
disks_faults disks = disks.faults
