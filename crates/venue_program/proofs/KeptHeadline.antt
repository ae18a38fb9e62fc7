-- From how a session ends that keeps a journal to its headline.
use Rattle.std.proofs.Common.{◌≡◌, ◌⊎◌, ℕ, List, ◌++◌, Option, Some, subst, inl, inr}
use Rattle.venue_ports.specs.Files.{StoredFile}
use Rattle.journal_start.specs.Shelves.{Shelf}
use Rattle.shared_hall.specs.Entry.{Entry}
use Rattle.shared_hall.specs.Facts.{Facts}
use Rattle.journal_start.specs.Told.{told_records}
use Rattle.venue_service.specs.Making.{shelf_of}
use Rattle.venue_service.specs.Records.{Logged}
use Rattle.journal_start.specs.Headline.{Headline}
use Rattle.venue_commands.specs.declared.status.Status.{Status}
use Rattle.venue_commands.specs.declared.status.Status.TheVariants.{Done, Negative, Memory}
use Rattle.venue_commands.specs.Runs.{Run}
use Rattle.venue_commands.specs.Served.{console_of, reads_of}
use Rattle.venue_commands.proofs.Headlining.{Law, appended, consumed, whole_end, wrote_whole}
use Rattle.venue_program.specs.Disks.{DisksRun}
use Rattle.venue_program.specs.Doors.{DoorsRun}
use Rattle.venue_program.specs.Kept.{IsFirstSeat, KeptSession, SeatEnds, SeatServed}

-- what is said, less the premises
abbrev pub SaysKept : List (List ℕ) → Option Shelf → List Entry → List ℕ → List ℕ → Run → Type 0
SaysKept keys shelf entries came before run =
    (left : List ℕ) × (written : List ℕ) × (run.left_now ≡ Some left) × (run.written_now ≡ Some (before ++ written)) × Headline keys shelf 1 entries came left written

first_says : (keys : List (List ℕ)) (shelf : Option Shelf) (entries : List Entry) (facts : Facts) (came left written : List ℕ) → IsFirstSeat shelf entries facts
    → Headline keys facts.files facts.worker facts.seen came left written → Headline keys shelf 1 entries came left written
first_says keys shelf entries facts came left written first says =
    subst (λ (h : List Entry). Headline keys shelf 1 h came left written) first.seen
    (subst (λ (n : ℕ). Headline keys shelf n facts.seen came left written) first.worker
    (subst (λ (s : Option Shelf). Headline keys s facts.worker facts.seen came left written) first.shelf_is says))

seat_says : Law → (keys : List (List ℕ)) (shelf : Option Shelf) (entries : List Entry) (run : Run) (records : Option (List Logged)) (count : ℕ) (status : Status) (came before : List ℕ)
    → run.left ≡ Some came → run.written ≡ Some before → (status ≡ Done) ⊎ (status ≡ Negative)
    → SeatServed shelf keys entries (console_of run) (reads_of run) records count status → SaysKept keys shelf entries came before run
seat_says law keys shelf entries run records count status came before left written ends s =
    let whole = whole_end s.end status s.ended ends in
    let session = s.session in
    let rest = consumed run.left run.left_now session.run.bytes came left session.took in
    let text = wrote_whole keys s.end session.run (console_of run) s.closing whole session.ended in
    let wrote = appended run.written run.written_now text.0 before written text.1 in
    let says = law keys s.opening s.closing (console_of run) s.end came rest.0 before text.0 session whole left rest.1 written wrote in
    (rest.0, text.0, rest.1, wrote, first_says keys shelf entries s.opening came rest.0 text.0 s.first says)

-- memory didn't run out where the session ended by itself
never_untaken : (status : Status) → status ≡ Memory → (status ≡ Done) ⊎ (status ≡ Negative) → ⊥
never_untaken status memory (inl done) = absurd cc
never_untaken status memory (inr negative) = absurd cc

ends_say : Law → (keys : List (List ℕ)) (shelf : Option Shelf) (entries : List Entry) (run : Run) (records : Option (List Logged)) (count : ℕ) (status : Status) (came before : List ℕ)
    → run.left ≡ Some came → run.written ≡ Some before → (status ≡ Done) ⊎ (status ≡ Negative)
    → SeatEnds shelf keys entries (console_of run) (reads_of run) records count status → SaysKept keys shelf entries came before run
ends_say law keys shelf entries run records count status came before left written ends (inl seat) = seat_says law keys shelf entries run records count status came before left written ends seat
ends_say law keys shelf entries run records count status came before left written ends (inr untaken) = absurd (never_untaken status untaken.memory ends)

pub kept_says : Law → (words : List (List ℕ)) (files : Option (List StoredFile)) (run : Run) (doors : DoorsRun) (disks : DisksRun) (status : Status) (came before : List ℕ)
    → (session : KeptSession words files run doors disks status) → run.left ≡ Some came → run.written ≡ Some before → (status ≡ Done) ⊎ (status ≡ Negative)
    → SaysKept session.settings.staff_keys (shelf_of files session.base) session.entries came before run
kept_says law words files run doors disks status came before s left written ends =
    ends_say law s.settings.staff_keys (shelf_of files s.base) s.entries run (told_records s.count s.disk.moments) s.count status came before left written ends s.ends
