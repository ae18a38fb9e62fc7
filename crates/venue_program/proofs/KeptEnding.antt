-- From what a command with a journal came to, to how it ends.
use Rattle.std.proofs.Common.{◌≡◌, ◌⊎◌, ℕ, ◌≤◌, List, Option, Some, None, option_map, refl, sym, subst, ap, ◌∙◌, inl, inr, true, false, arith}
use Rattle.std.specs.Prelude.{IfSome, IfNone, IsSome}
use Rattle.venue_types.specs.declared.settings.Settings.{Settings}
use Rattle.venue_ports.specs.Files.{StoredFile}
use Rattle.venue_ports.specs.declared.disk.Disk.{Ghosts as Disk}
use Rattle.journal_start.specs.Shelves.{Shelf}
use Rattle.shared_hall.specs.Entry.{Entry}
use Rattle.shared_hall.specs.Records.{Logged}
use Rattle.shared_hall.specs.Standing.{AreRecordsOf}
use Rattle.journal_start.specs.Moments.{Reads}
use Rattle.venue_service.specs.Ends.{Measured}
use Rattle.venue_service.specs.Services.{HallTerms, IsKeptOn}
use Rattle.venue_commands.specs.declared.status.Status.{Status}
use Rattle.journal_start.specs.declared.stop.Why.{Why}
use Rattle.journal_start.specs.declared.stop.Why.TheVariants as why
use Rattle.journal_start.specs.Starts.{CountsDisk, IsAskedBy, IsStopped}
use Rattle.venue_program.specs.Disks.{disk_run}
use Rattle.venue_program.specs.Doors.{DoorsRun}
use Rattle.venue_program.specs.Kept.{SeatEnds, ServedDoors}
use Rattle.venue_program.specs.Services.{IsServiceEnd}

-- a disk that came back, with what holds of it
pub there : {K : Type 0} (D : Disk K) (P : K → Type 0) (found : Option K) → IsSome found → IfSome found P
    → (disk : K) × (option_map (disk_run D) found ≡ Some (disk_run D disk)) × P disk
there D P None is holds = let same : false ≡ true = is in absurd cc
there D P (Some disk) is holds = (disk, refl, holds)

-- the records of a log that came back stand for the entries, or for the history at the close
pub log_kept : {J : Type 0} (R : J → Option (List Logged)) (old new : J) (opening entries : List Entry) (records : Option (List Logged)) → (new ≡ old) ⊎ IsKeptOn opening (R new)
    → opening ≡ entries → AreRecordsOf (R old) entries → R new ≡ records → AreRecordsOf records entries ⊎ IsKeptOn entries records
log_kept R old new opening entries records (inl same) is given told = inl (subst (λ (r : Option (List Logged)). AreRecordsOf r entries) (ap R (sym same) ∙ told) given)
log_kept R old new opening entries records (inr kept) is given told =
    inr (subst (λ (h : List Entry). IsKeptOn h records) is (subst (IsKeptOn opening) told kept))

-- a service at an address, where address and records are told otherwise
pub service_as : (address named : List ℕ) (terms : HallTerms) (records told : Option (List Logged)) (console : Measured) (doors : DoorsRun) (status : Status) → address ≡ named → records ≡ told
    → IsServiceEnd address terms records console doors status → IsServiceEnd named terms told console doors status
service_as address named terms records told console doors status same is ends =
    subst (λ (a : List ℕ). IsServiceEnd a terms told console doors status) same (subst (λ (r : Option (List Logged)). IsServiceEnd address terms r console doors status) is ends)

-- what is said of a disk that came back, of what is measured of it
pub stop_maps : {K : Type 0} (D : Disk K) (files held : Option (List StoredFile)) (base folder journal : List ℕ) (disk : Option K) (w : Why) → IsStopped files held base folder journal disk w
    → IsStopped files held base folder journal (option_map (disk_run D) disk) w
stop_maps D files held base folder journal None w stop = stop
stop_maps D files held base folder journal (Some disk) w stop = stop

pub back_maps : {K : Type 0} (D : Disk K) (disk : Option K) (w : Why) → IfSome disk (λ d. CountsDisk 0 (D.faults d) w) → IfSome (option_map (disk_run D) disk) (λ d. CountsDisk 0 d.faults w)
back_maps D None w counts = counts
back_maps D (Some disk) w counts = counts

pub none_maps : {K : Type 0} (D : Disk K) (P : Type 0) (disk : Option K) → IfNone disk P → IfNone (option_map (disk_run D) disk) P
none_maps D P None holds = holds
none_maps D P (Some disk) holds = holds

pub some_maps : {K : Type 0} (D : Disk K) (P : Type 0) (disk : Option K) → IfSome disk (λ _. P) → IfSome (option_map (disk_run D) disk) (λ _. P)
some_maps D P None holds = holds
some_maps D P (Some disk) holds = holds

pub asked_maps : {K : Type 0} (D : Disk K) (base journal : List ℕ) (opens opens_now : Option ℕ) (names names_now : Option (List ℕ × List ℕ)) (disk : Option K) (w : Why)
    → IsAskedBy base journal opens opens_now names names_now disk w → IsAskedBy base journal opens opens_now names names_now (option_map (disk_run D) disk) w
asked_maps D base journal opens opens_now names names_now None why.DiskFault asked = asked
asked_maps D base journal opens opens_now names names_now None (why.Printed answer) asked = asked
asked_maps D base journal opens opens_now names names_now None why.FolderFault asked = asked
asked_maps D base journal opens opens_now names names_now None why.OutOfMemory asked = asked
asked_maps D base journal opens opens_now names names_now (Some disk) w asked = asked

-- the folders of the seat, told otherwise
pub seat_as : (shelf other : Option Shelf) (keys : List (List ℕ)) (entries : List Entry) (console : Measured) (reads : Reads) (records : Option (List Logged)) (count : ℕ) (status : Status)
    → shelf ≡ other → SeatEnds shelf keys entries console reads records count status → SeatEnds other keys entries console reads records count status
seat_as shelf other keys entries console reads records count status same ends = subst (λ (s : Option Shelf). SeatEnds s keys entries console reads records count status) same ends

-- and the base of a service
pub doors_as : (base other : List ℕ) (settings : Settings) (entries : List Entry) (address : List ℕ) (workers connections : ℕ) (records : Option (List Logged)) (console : Measured)
    (doors : DoorsRun) (status : Status) → base ≡ other → ServedDoors base settings entries address workers connections records console doors status
    → ServedDoors other settings entries address workers connections records console doors status
doors_as base other settings entries address workers connections records console doors status same ends =
    subst (λ (b : List ℕ). ServedDoors b settings entries address workers connections records console doors status) same ends

pub later_on : (old mid now : ℕ) → mid ≡ old → mid ≤ now → old ≤ now
later_on old mid now same later = omega (arith, same, later)
