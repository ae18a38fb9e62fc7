-- How a command ends that keeps its changes in a journal.
use Rattle.std.specs.Prelude.{◌≡◌, ◌⊎◌, ℕ, ◌≤◌, List, [], ◌∷◌, Option, Some, false, IfSome, IfNone, length, codes}
use mathlib.Core.List.{IsPrefix}
use Rattle.line_forms.specs.Lines.{line}
use Rattle.venue_types.specs.declared.settings.Settings.{Settings}
use Rattle.venue_ports.specs.Asked.{AskedFile, HaveAsked}
use Rattle.venue_ports.specs.Disks.{OpensDisk}
use Rattle.venue_ports.specs.Files.{StoredFile}
use Rattle.venue_ports.specs.Moments.{Moment}
use Rattle.journal_start.specs.Stamps.{entries_of}
use Rattle.journal_start.specs.Resumed.{Resumed}
use Rattle.journal_start.specs.Told.{told_records, HoldsRecords}
use Rattle.shared_hall.specs.Entry.{Entry}
use Rattle.venue_service.specs.Ends.{Measured}
use Rattle.shared_hall.specs.Facts.{Facts}
use Rattle.venue_service.specs.Making.{shelf_of}
use Rattle.journal_start.specs.Shelves.{Shelf}
use Rattle.venue_service.specs.Records.{Logged}
use Rattle.journal_start.specs.Moments.{IsPrompt, Reads}
use Rattle.venue_service.specs.Services.{HallTerms, IsKeptOn}
use Rattle.journal_start.specs.Sessions.{HasServed, IsSession}
use Rattle.venue_service.specs.Standing.{AreRecordsOf}
use Rattle.journal_start.specs.End.{End}
use Rattle.venue_commands.specs.declared.status.Status.{Status}
use Rattle.venue_commands.specs.declared.status.Status.TheVariants.{Fault, Memory}
use Rattle.venue_commands.specs.Commands.{Serve, Session, Asks}
use Rattle.venue_commands.specs.Ends.{folder_fault}
use Rattle.venue_commands.specs.Checked.{settings_name}
use Rattle.venue_commands.specs.FaultOrder.{FailsInFolder, read_at}
use Rattle.venue_commands.specs.Runs.{Run, IsUnread}
use Rattle.venue_commands.specs.Served.{console_of, end_status, reads_of}
use Rattle.journal_start.specs.Starts.{AskedOnce, CountsDisk, CountsFolders, IsAskedBy, IsStarted, IsStopped}
use Rattle.journal_start.specs.Stops.{AreSettingsOf}
use Rattle.journal_start.specs.declared.stop.Why.{Why}
use Rattle.journal_start.specs.declared.stop.Why.TheVariants as why
use Rattle.venue_program.specs.Disks.{DiskRun, DisksRun}
use Rattle.venue_program.specs.Doors.{AreBoundAt, AreUnasked, DoorsRun}
use Rattle.venue_program.specs.Services.{IsServiceEnd, IsTold, IsToldInPart}

abbrev pub disk_fault : List ℕ
disk_fault = line (codes "fault disk")

-- the words ask for a session or a service over this folder that keeps this journal
pub data AskKept (words : List (List ℕ)) (base folder journal : List ℕ) : Type 0 where
  asks_session : Asks words (Session base folder (Some journal)) → AskKept words base folder journal
  asks_service : (address : List ℕ) (workers connections : ℕ) → Asks words (Serve base folder address workers connections (Some journal)) → AskKept words base folder journal

-- a text was written, or a front of it and the console failed
abbrev pub WasTold : Measured → List ℕ → Type 0
WasTold console text = IsTold console text ⊎ IsToldInPart console text

-- what is told of why nothing is served, and with which status
abbrev pub TellsWhy : Why → Measured → Status → Type 0
TellsWhy (why.Printed answer) console status = (IsTold console answer.text × (status ≡ answer.status)) ⊎ (IsToldInPart console answer.text × (status ≡ Fault))
TellsWhy why.FolderFault console status = WasTold console folder_fault × (status ≡ Fault)
TellsWhy why.DiskFault console status = WasTold console disk_fault × (status ≡ Fault)
TellsWhy why.OutOfMemory console status = IsTold console [] × (status ≡ Memory)

-- nothing was served, and this was told: a disk that failed tells so by its own count, or the disks do where none was opened
pub record KeptStop (words : List (List ℕ)) (files : Option (List StoredFile)) (run : Run) (doors : DoorsRun) (disks : DisksRun) (status : Status) : Type 0 where
  pub base : List ℕ
  pub folder : List ℕ
  pub journal : List ℕ
  pub asks : AskKept words base folder journal
  pub cause : Why
  pub stops : IsStopped files disks.held base folder journal disks.disk cause
  pub tells : TellsWhy cause (console_of run) status
  pub folders : CountsFolders run.folders run.folders_now cause
  pub fails : cause ≡ why.FolderFault → FailsInFolder files run.asked run.asked_now base folder
  pub back : IfSome disks.disk (λ disk. CountsDisk 0 disk.faults cause)
  pub unopened : IfNone disks.disk (CountsDisk disks.faults disks.faults_now cause)
  pub disks_kept : IfSome disks.disk (λ _. disks.faults_now ≡ disks.faults)
  pub asked : IsAskedBy base journal disks.opens disks.opens_now disks.names disks.names_now disks.disk cause
  pub unread : IsUnread run
  pub unasked : AreUnasked doors

-- what a hall went on with: the settings of the base, and the history of the journal that was opened, where the settings alone had been read by then; or the opening of the
-- folder, where it had none
pub record HasStarted (files held : Option (List StoredFile)) (asked : Option (List AskedFile)) (base folder journal : List ℕ) (settings : Settings) (entries : List Entry) : Type 0 where
  pub settings_are : AreSettingsOf files base settings
  pub opened : List Moment
  pub opens : OpensDisk held base journal opened
  pub asked_then : Option (List AskedFile)
  pub count : ℕ
  pub resumed : Resumed
  pub now : List Moment
  pub started : IsStarted files base folder settings opened (HaveAsked (read_at base settings_name false ∷ []) asked asked_then) count resumed now
  pub entries_are : entries ≡ entries_of resumed.held.stamp

-- the seat of the one worker at a hall that has just been opened with these entries
pub record IsFirstSeat (shelf : Option Shelf) (entries : List Entry) (facts : Facts) : Type 0 where
  pub worker : facts.worker ≡ 1
  pub shelf_is : facts.files ≡ shelf
  pub seen : facts.seen ≡ entries
  pub made : facts.made ≡ 0
  pub faults : facts.faults ≡ 0
  pub looks : facts.looks ≡ 0

-- a log of so many records, which stand for this history where they are told
pub record IsLogOf (records : Option (List Logged)) (count : ℕ) (history : List Entry) : Type 0 where
  pub stand : AreRecordsOf records history
  pub counted : count ≡ length history

-- the seat served the console, and what it saw begins the history for which the log's records then stand
pub record SeatServed (shelf : Option Shelf) (keys : List (List ℕ)) (entries : List Entry) (console : Measured) (reads : Reads) (records : Option (List Logged)) (count : ℕ) (status : Status) : Type 0 where
  pub opening : Facts
  pub first : IsFirstSeat shelf entries opening
  pub closing : Facts
  pub end : End
  pub session : IsSession keys opening closing console end
  pub prompt : IsPrompt keys opening reads
  pub hall : HasServed opening closing
  pub history : List Entry
  pub begins : IsPrefix closing.seen history
  pub kept : IsLogOf records count history
  pub ended : status ≡ end_status end

-- the seat was never taken, since memory ran out: nothing was written, and the log's records stand for a history that begins with the entries
pub record SeatUntaken (entries : List Entry) (console : Measured) (records : Option (List Logged)) (count : ℕ) (status : Status) : Type 0 where
  pub memory : status ≡ Memory
  pub nothing : IsTold console []
  pub history : List Entry
  pub begins : IsPrefix entries history
  pub kept : IsLogOf records count history

-- what comes of the one seat of a hall
abbrev pub SeatEnds : Option Shelf → List (List ℕ) → List Entry → Measured → Reads → Option (List Logged) → ℕ → Status → Type 0
SeatEnds shelf keys entries console reads records count status =
    SeatServed shelf keys entries console reads records count status ⊎ SeatUntaken entries console records count status

-- a session was served over a hall that went on so, and the disk comes back: it holds the records of its log, and at most one more
pub record KeptSession (words : List (List ℕ)) (files : Option (List StoredFile)) (run : Run) (doors : DoorsRun) (disks : DisksRun) (status : Status) : Type 0 where
  pub base : List ℕ
  pub folder : List ℕ
  pub journal : List ℕ
  pub asks : Asks words (Session base folder (Some journal))
  pub settings : Settings
  pub entries : List Entry
  pub start : HasStarted files disks.held run.asked base folder journal settings entries
  pub disk : DiskRun
  pub back : disks.disk ≡ Some disk
  pub count : ℕ
  pub ends : SeatEnds (shelf_of files base) settings.staff_keys entries (console_of run) (reads_of run) (told_records count disk.moments) count status
  pub held : HoldsRecords count disk.moments
  pub folders : run.folders ≤ run.folders_now
  pub asked : AskedOnce base journal disks.opens disks.opens_now disks.names disks.names_now
  pub disks_kept : disks.faults_now ≡ disks.faults
  pub unasked : AreUnasked doors

-- the hall has the base and the keys of its settings, and serves as it was asked to
pub record AreKeptTerms (base : List ℕ) (settings : Settings) (workers connections : ℕ) (terms : HallTerms) : Type 0 where
  pub base_is : terms.base ≡ base
  pub keys : terms.keys ≡ settings.staff_keys
  pub workers_are : terms.workers ≡ workers
  pub connections_are : terms.connections ≡ connections

-- a service at doors was served over these entries, or memory ran out before: the records of the log stand for the entries, or for the history at the close
pub record ServedDoors (base : List ℕ) (settings : Settings) (entries : List Entry) (address : List ℕ) (workers connections : ℕ) (records : Option (List Logged)) (console : Measured)
    (doors : DoorsRun) (status : Status) : Type 0 where
  pub terms : HallTerms
  pub opening_is : terms.opening ≡ entries
  pub terms_are : AreKeptTerms base settings workers connections terms
  pub kept : AreRecordsOf records entries ⊎ IsKeptOn entries records
  pub ends : (AreBoundAt address doors × IsServiceEnd address terms records console doors status) ⊎ (AreUnasked doors × IsTold console [] × (status ≡ Memory))

-- the words ask for a service that keeps a journal, which was served, and the disk comes back so too
pub record KeptService (words : List (List ℕ)) (files : Option (List StoredFile)) (run : Run) (doors : DoorsRun) (disks : DisksRun) (status : Status) : Type 0 where
  pub base : List ℕ
  pub folder : List ℕ
  pub journal : List ℕ
  pub address : List ℕ
  pub workers : ℕ
  pub connections : ℕ
  pub asks : Asks words (Serve base folder address workers connections (Some journal))
  pub settings : Settings
  pub entries : List Entry
  pub start : HasStarted files disks.held run.asked base folder journal settings entries
  pub disk : DiskRun
  pub back : disks.disk ≡ Some disk
  pub count : ℕ
  pub ends : ServedDoors base settings entries address workers connections (told_records count disk.moments) (console_of run) doors status
  pub held : HoldsRecords count disk.moments
  pub unread : IsUnread run
  pub folders : run.folders ≤ run.folders_now
  pub asked : AskedOnce base journal disks.opens disks.opens_now disks.names disks.names_now
  pub disks_kept : disks.faults_now ≡ disks.faults

-- a command ended that keeps its changes in a journal
abbrev pub KeptEnds : List (List ℕ) → Option (List StoredFile) → Run → DoorsRun → DisksRun → Status → Type 0
KeptEnds words files run doors disks status =
    KeptStop words files run doors disks status ⊎ KeptSession words files run doors disks status ⊎ KeptService words files run doors disks status
