-- From how a run ends to what becomes of a command that nothing stops.
use Rattle.std.proofs.Common.{◌≡◌, ◌⊎◌, ℕ, List, [], Option, Some, None, refl, inl, inr, subst, ap, ◌∙◌, arith}
use Rattle.std.specs.Prelude.{IfSome, IfNone}
use Rattle.venue_types.specs.declared.settings.Settings.{Settings}
use Rattle.venue_ports.specs.Causes.{Rose}
use Rattle.venue_ports.specs.Files.{StoredFile}
use Rattle.venue_ports.specs.Moments.{Moment}
use Rattle.journal_start.specs.Shelves.{Shelf}
use Rattle.shared_hall.specs.Entry.{Entry}
use Rattle.journal_start.specs.Told.{told_records}
use Rattle.journal_start.specs.Moments.{Reads}
use Rattle.journal_start.specs.End.{End}
use Rattle.venue_service.specs.Ends.{Measured}
use Rattle.venue_service.specs.Making.{shelf_of}
use Rattle.venue_service.specs.Records.{Logged}
use Rattle.venue_service.specs.Services.{HallTerms}
use Rattle.venue_commands.specs.declared.printout.Printout.{Printout}
use Rattle.venue_commands.specs.declared.status.Status.{Status}
use Rattle.venue_commands.specs.declared.status.Status.TheVariants.{Done, Negative, Wrong, Fault, Memory}
use Rattle.venue_commands.specs.Ends.{Ends}
use Rattle.venue_commands.specs.Runs.{Run}
use Rattle.venue_commands.specs.Served.{console_of, end_status, reads_of}
use Rattle.venue_commands.proofs.Completing.{fault_rose}
use Rattle.journal_start.specs.Starts.{CountsDisk, CountsFolders, IsStopped}
use Rattle.journal_start.specs.Stops.{IsJournalStop, damaged, unfit, rejected}
use Rattle.journal_start.specs.declared.stop.Why.{Why}
use Rattle.journal_start.specs.declared.stop.Why.TheVariants as why
use Rattle.venue_program.specs.Complete.{IsUnhindered, IsDone}
use Rattle.venue_program.specs.Disks.{DiskRun, DisksRun}
use Rattle.venue_program.specs.Doors.{AreBoundAt, AreUnasked, DoorsRun}
use Rattle.venue_program.specs.Ends.{RunEnds}
use Rattle.venue_program.specs.Kept.{AskKept, KeptSession, KeptStop, SeatEnds, SeatServed, TellsWhy}
use Rattle.venue_program.specs.Services.{IsServiceEnd, IsTold, unbound, unheard, unserved, served, failing, cut_short, untold}

ends_done : (words : List (List ℕ)) (files : List StoredFile) (run : Run) (doors : DoorsRun) (disks : DisksRun) (status : Status) → IsUnhindered words files run doors disks → Ends words (Some files) run status → IsDone status
ends_done words files run doors disks Done free ends = inl refl
ends_done words files run doors disks Negative free ends = inr (inl refl)
ends_done words files run doors disks Memory free ends = inr (inr refl)
ends_done words files run doors disks Wrong free printed = absurd (free.unstopped printed.text printed.output)
ends_done words files run doors disks Fault free (inl cut) = absurd (free.console cut.cause)
ends_done words files run doors disks Fault free (inr (inl failed)) = absurd (free.folders failed.cause)
ends_done words files run doors disks Fault free (inr (inr session)) = absurd (free.console (fault_rose words (Some files) run session.end session refl))

service_done : (words : List (List ℕ)) (files : List StoredFile) (run : Run) (doors : DoorsRun) (disks : DisksRun) (address : List ℕ) (terms : HallTerms) (records : Option (List Logged)) {status : Status} → IsUnhindered words files run doors disks
    → IsServiceEnd address terms records (console_of run) doors status → IsDone status
service_done words files run doors disks address terms records free (unbound accepted rose told) = absurd (free.doors_kept rose)
service_done words files run doors disks address terms records free (unheard nobody told) = absurd (free.console told.cause)
service_done words files run doors disks address terms records free (unserved nobody told) = inr (inr refl)
service_done words files run doors disks address terms records free (served counts were sound told) = inl refl
service_done words files run doors disks address terms records free (failing counts were failed told) = absurd (free.doors_kept (were.failed failed))
service_done words files run doors disks address terms records free (cut_short counts were told) = absurd (free.console told.cause)
service_done words files run doors disks address terms records free (untold counts were told) = inr (inr refl)

-- what is printed as a stop comes with one of two statuses
over_status : (files : List StoredFile) (base folder : List ℕ) (settings : Settings) (opened : List Moment) (answer : Printout) → IsJournalStop (Some files) base folder settings opened answer
    → (answer.status ≡ Wrong) ⊎ (answer.status ≡ Negative)
over_status files base folder settings opened answer (damaged place at text status) = inl status
over_status files base folder settings opened answer (unfit number at text status) = inl status
over_status files base folder settings opened answer (rejected none report) = inr report.3

printed_status : {K : Type 0} (files : List StoredFile) (held : Option (List StoredFile)) (base folder journal : List ℕ) (disk : Option K) (answer : Printout)
    → IsStopped (Some files) held base folder journal disk (why.Printed answer) → (answer.status ≡ Wrong) ⊎ (answer.status ≡ Negative)
printed_status files held base folder journal None answer stops = inl stops.1
printed_status files held base folder journal (Some disk) answer (settings, opened, are, opens, over) = over_status files base folder settings opened answer over

-- the disk failed, or the disks where none was opened
disk_rose : (disks : DisksRun) (disk : Option DiskRun) → IfSome disk (λ d. CountsDisk 0 d.faults why.DiskFault) → IfNone disk (CountsDisk disks.faults disks.faults_now why.DiskFault)
    → (Rose disks.faults disks.faults_now → ⊥) → IfSome disk (λ d. d.faults ≡ 0) → ⊥
disk_rose disks None back unopened kept sound = kept unopened
disk_rose disks (Some d) back unopened kept sound = let rose : Rose 0 d.faults = back in absurd (omega (arith, rose, sound))

-- a printed stop is told, with its status, which isn't that of a wrong word or file
printed_done : (words : List (List ℕ)) (files : List StoredFile) (run : Run) (doors : DoorsRun) (disks : DisksRun) (status : Status) (base folder journal : List ℕ) (answer : Printout)
    → IsUnhindered words files run doors disks → AskKept words base folder journal → IsStopped (Some files) disks.held base folder journal disks.disk (why.Printed answer)
    → TellsWhy (why.Printed answer) (console_of run) status → (answer.status ≡ Wrong) ⊎ (answer.status ≡ Negative) → IsDone status
printed_done words files run doors disks status base folder journal answer free asks stops (inl (told, same)) (inl wrong) = absurd (free.unstopped_by base folder journal answer asks stops wrong)
printed_done words files run doors disks status base folder journal answer free asks stops (inl (told, same)) (inr negative) = inr (inl (same ∙ negative))
printed_done words files run doors disks status base folder journal answer free asks stops (inr (part, fault)) is = absurd (free.console part.cause)

-- nothing was served, and this isn't a stop
stop_done : (words : List (List ℕ)) (files : List StoredFile) (run : Run) (doors : DoorsRun) (disks : DisksRun) (status : Status) (end : KeptStop words (Some files) run doors disks status)
    → IsUnhindered words files run doors disks → (cause : Why) → end.cause ≡ cause → IsDone status
stop_done words files run doors disks status end free (why.Printed answer) is =
    let stops : IsStopped (Some files) disks.held end.base end.folder end.journal disks.disk (why.Printed answer) = subst (IsStopped (Some files) disks.held end.base end.folder end.journal disks.disk) is end.stops in
    let tells : TellsWhy (why.Printed answer) (console_of run) status = subst (λ (w : Why). TellsWhy w (console_of run) status) is end.tells in
    printed_done words files run doors disks status end.base end.folder end.journal answer free end.asks stops tells
    (printed_status files disks.held end.base end.folder end.journal disks.disk answer stops)
stop_done words files run doors disks status end free why.FolderFault is =
    absurd (free.folders (subst (CountsFolders run.folders run.folders_now) is end.folders))
stop_done words files run doors disks status end free why.DiskFault is =
    absurd (disk_rose disks disks.disk (subst (λ (w : Why). IfSome disks.disk (λ d. CountsDisk 0 d.faults w)) is end.back)
    (subst (λ (w : Why). IfNone disks.disk (CountsDisk disks.faults disks.faults_now w)) is end.unopened) free.disks_kept free.disk_kept)
stop_done words files run doors disks status end free why.OutOfMemory is =
    let tells : TellsWhy why.OutOfMemory (console_of run) status = subst (λ (w : Why). TellsWhy w (console_of run) status) is end.tells in inr (inr tells.1)

-- a session that ends by a fault of its link saw the count rise
seat_done : (shelf : Option Shelf) (keys : List (List ℕ)) (entries : List Entry) (console : Measured) (reads : Reads) (records : Option (List Logged)) (count : ℕ) (status : Status)
    (seat : SeatServed shelf keys entries console reads records count status) → (Rose console.faults_before console.faults_after → ⊥) → (end : End) → seat.end ≡ end → IsDone status
seat_done shelf keys entries console reads records count status seat free End.LinkFault is = let ended = rw is at seat.session.ended in absurd (free ended.0)
seat_done shelf keys entries console reads records count status seat free End.Done is = inl (seat.ended ∙ ap end_status is)
seat_done shelf keys entries console reads records count status seat free (End.Cut n) is = inr (inl (seat.ended ∙ ap end_status is))
seat_done shelf keys entries console reads records count status seat free (End.Refused refusal) is = inr (inl (seat.ended ∙ ap end_status is))
seat_done shelf keys entries console reads records count status seat free End.Worn is = inr (inl (seat.ended ∙ ap end_status is))
seat_done shelf keys entries console reads records count status seat free End.OutOfMemory is = inr (inr (seat.ended ∙ ap end_status is))

session_done : (words : List (List ℕ)) (files : List StoredFile) (run : Run) (doors : DoorsRun) (disks : DisksRun) (status : Status) → IsUnhindered words files run doors disks
    → (s : KeptSession words (Some files) run doors disks status)
    → SeatEnds (shelf_of (Some files) s.base) s.settings.staff_keys s.entries (console_of run) (reads_of run) (told_records s.count s.disk.moments) s.count status → IsDone status
session_done words files run doors disks status free s (inl seat) =
    seat_done (shelf_of (Some files) s.base) s.settings.staff_keys s.entries (console_of run) (reads_of run) (told_records s.count s.disk.moments) s.count status seat free.console seat.end refl
session_done words files run doors disks status free s (inr untaken) = inr (inr untaken.memory)

kept_service_done : (words : List (List ℕ)) (files : List StoredFile) (run : Run) (doors : DoorsRun) (disks : DisksRun) (status : Status) (address : List ℕ) (terms : HallTerms)
    (records : Option (List Logged)) → IsUnhindered words files run doors disks
    → (AreBoundAt address doors × IsServiceEnd address terms records (console_of run) doors status) ⊎ (AreUnasked doors × IsTold (console_of run) [] × (status ≡ Memory)) → IsDone status
kept_service_done words files run doors disks status address terms records free (inl (bound, ends)) = service_done words files run doors disks address terms records free ends
kept_service_done words files run doors disks status address terms records free (inr (unasked, told, memory)) = inr (inr memory)

pub is_done : (words : List (List ℕ)) (files : List StoredFile) (run : Run) (doors : DoorsRun) (disks : DisksRun) (status : Status) → IsUnhindered words files run doors disks
    → RunEnds words (Some files) run doors disks status → IsDone status
is_done words files run doors disks status free (inl (inl alone, left)) = ends_done words files run doors disks status free alone.ends
is_done words files run doors disks status free (inl (inr service, left)) = service_done words files run doors disks service.address service.terms None free service.ends
is_done words files run doors disks status free (inr (inl stopped)) = stop_done words files run doors disks status stopped free stopped.cause refl
is_done words files run doors disks status free (inr (inr (inl session))) = session_done words files run doors disks status free session session.ends
is_done words files run doors disks status free (inr (inr (inr service))) =
    kept_service_done words files run doors disks status service.address service.ends.terms (told_records service.count service.disk.moments) free service.ends.ends
