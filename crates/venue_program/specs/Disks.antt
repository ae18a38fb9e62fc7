-- What is measured of the disks.
use Rattle.std.specs.Prelude.{◌≡◌, ℕ, List, Option, None}
use Rattle.std.specs.Option.{option_map}
use Rattle.venue_ports.specs.Files.{StoredFile}
use Rattle.venue_ports.specs.Moments.{Moment}
use Rattle.venue_ports.specs.declared.disk.Disk.{Ghosts as Disk}
use Rattle.venue_ports.specs.declared.disk.Disks.{Ghosts as Shelves}

-- what a disk tells that is handed back: the count of its faults, and its moments
pub record DiskRun : Type 0 where
  pub faults : ℕ
  pub moments : List Moment

-- what disks tell before a run and after it: the files that they are opened over, how often they were asked, for which base and journal they were last, and the
-- count of their faults; and the disk that is handed back, where one was opened
pub record DisksRun : Type 0 where
  pub held : Option (List StoredFile)
  pub opens : Option ℕ
  pub opens_now : Option ℕ
  pub names : Option (List ℕ × List ℕ)
  pub names_now : Option (List ℕ × List ℕ)
  pub faults : ℕ
  pub faults_now : ℕ
  pub disk : Option DiskRun

abbrev pub disk_run : {K : Type 0} → Disk K → K → DiskRun
disk_run K disk = record { faults = K.faults disk; moments = K.moments disk }

-- what is measured between disks before and the same disks after, and of the disk that is handed back
abbrev pub disks_between : {S K : Type 0} → Shelves S K → Disk K → S → S → Option K → DisksRun
disks_between S K old new disk = record {
  held = S.files old;
  opens = S.opens old;
  opens_now = S.opens new;
  names = S.opened old;
  names_now = S.opened new;
  faults = S.faults old;
  faults_now = S.faults new;
  disk = option_map (disk_run K) disk;
}

-- nothing was asked of them
pub record AreLeft (disks : DisksRun) : Type 0 where
  pub opens : disks.opens_now ≡ disks.opens
  pub names : disks.names_now ≡ disks.names
  pub faults : disks.faults_now ≡ disks.faults
  pub nothing : disks.disk ≡ None
