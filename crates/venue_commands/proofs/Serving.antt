-- From a session over the console to how the run ends.
use Rattle.std.proofs.Common.{◌≡◌, ◌≤◌, ℕ, List, Option, Some, None, refl, sym, subst, ap, ◌∙◌, inl, inr, true, false}
use Rattle.std.specs.Arc.{arc_value}
use Rattle.venue_folder.specs.Shelves.{Shelf}
use Rattle.venue_ports.specs.Files.{StoredFile}
use Rattle.venue_session.specs.Facts.{Facts}
use Rattle.version_board.specs.Making.{shelf_of}
use Rattle.version_board.specs.OneThread.{one_thread}
use Rattle.venue_session.specs.Openings.{opening_history}
use Rattle.venue_session.specs.Venues.{SeenVenue as Venue}
use Rattle.venue_session.specs.Moments.{IsPrompt}
use Rattle.venue_session.specs.Sessions.{IsSession, HasServed}
use Rattle.venue_session.specs.declared.ends.End.{End}
use Rattle.venue_commands.specs.declared.start.Start.{Start}
use Rattle.venue_commands.specs.declared.status.Status.{Status}
use Rattle.venue_commands.specs.declared.status.Status.TheVariants.{Done, Negative, Wrong, Fault, Memory}
use Rattle.venue_commands.specs.Ends.{Ends}
use Rattle.venue_commands.specs.Openings.{IsOpening}
use Rattle.venue_commands.specs.Commands.{Session, Asks, AskNoConsole}
use Rattle.venue_commands.specs.Runs.{Run, NoFault, IsUnread}
use Rattle.venue_commands.specs.Served.{end_status, console_of, reads_of, Served}

-- the files of a shelf
abbrev stored_of : Option Shelf → Option (List StoredFile)
stored_of None = None
stored_of (Some shelf) = Some shelf.stored

stored_on : (files : Option (List StoredFile)) (base : List ℕ) → stored_of (shelf_of files base) ≡ files
stored_on None base = refl
stored_on (Some fs) base = refl

-- the same shelf has the same files
pub same_files : (files files' : Option (List StoredFile)) (base base' : List ℕ) → shelf_of files' base' ≡ shelf_of files base → files' ≡ files
same_files files files' base base' same = sym (stored_on files' base') ∙ ap stored_of same ∙ stored_on files base

-- no session ends as if words or a file stopped it
never_wrong : (end : End) → Wrong ≡ end_status end → ⊥
never_wrong End.Done is = cc
never_wrong (End.Cut count) is = cc
never_wrong (End.Refused status) is = cc
never_wrong End.Worn is = cc
never_wrong End.LinkFault is = cc
never_wrong End.OutOfMemory is = cc

pub ends_as : (words : List (List ℕ)) (files : Option (List StoredFile)) (run : Run) (status : Status) → Served words files run status → Ends words files run status
ends_as words files run Done served = inr served
ends_as words files run Negative served = inr served
ends_as words files run Wrong served = absurd (never_wrong served.end served.ended)
ends_as words files run Fault served = inr (inr served)
ends_as words files run Memory served = inr served

pub ends_served : (words : List (List ℕ)) (files : Option (List StoredFile)) (run : Run) (status : Status) (opening : Start) (front : List (List ℕ)) (old new : Facts) (end : End)
    → IsOpening words files opening → front ≡ (arc_value opening.venue).settings.staff_keys → old ≡ one_thread files opening.base (opening_history opening.venue) run.folders 0
    → IsSession front old new (console_of run) end → IsPrompt front old (reads_of run) → HasServed old new → run.folders_now ≡ new.faults → status ≡ end_status end → Ends words files run status
ends_served words files run status opening front old new end opens keys facts session prompt hall folders ended =
    let venue : Venue = arc_value opening.venue in
    let told = opens.opens in
    ends_as words files run status (record {
      base = opens.base;
      folder = opens.folder;
      form = opens.asks.form;
      spelled = opens.asks.spelled;
      venue = venue;
      made = told.made;
      opening = old;
      opened = record {
        shared = opening.venue;
        publishes = refl;
        facts_are = subst (λ (b : List ℕ). old ≡ one_thread files b (opening_history opening.venue) run.folders 0) told.base_is facts;
      };
      closing = new;
      end = end;
      session = subst (λ (ks : List (List ℕ)). IsSession ks old new (console_of run) end) keys session;
      prompt = subst (λ (ks : List (List ℕ)). IsPrompt ks old (reads_of run)) keys prompt;
      hall = hall;
      folders = folders;
      ended = ended;
    })

-- the same, where what is told of the folders is told otherwise
pub serves : (words : List (List ℕ)) (files held : Option (List StoredFile)) (run : Run) (failed : ℕ) (status : Status) (opening : Start) (front : List (List ℕ)) (old new : Facts) (end : End)
    → IsOpening words files opening → held ≡ files → failed ≡ run.folders → front ≡ (arc_value opening.venue).settings.staff_keys
    → old ≡ one_thread held opening.base (opening_history opening.venue) failed 0
    → IsSession front old new (console_of run) end → IsPrompt front old (reads_of run) → HasServed old new → run.folders_now ≡ new.faults → status ≡ end_status end → Ends words files run status
serves words files held run failed status opening front old new end opens same kept keys facts session prompt hall folders ended =
    let held_files : old ≡ one_thread files opening.base (opening_history opening.venue) failed 0 =
    subst (λ (o : Option (List StoredFile)). old ≡ one_thread o opening.base (opening_history opening.venue) failed 0) same facts in
    let failed_so : old ≡ one_thread files opening.base (opening_history opening.venue) run.folders 0 =
    subst (λ (n : ℕ). old ≡ one_thread files opening.base (opening_history opening.venue) n 0) kept held_files in
    ends_served words files run status opening front old new end opens keys failed_so session prompt hall folders ended

pub ends_nothing : (words : List (List ℕ)) (files : Option (List StoredFile)) (run : Run) → run.written_now ≡ run.written → NoFault run → IsUnread run → Ends words files run Memory
ends_nothing words files run written faultless unread = inl (record { written = written; faultless = faultless; unread = unread })

-- who asks for a session asks for the console
pub asks_console : (words : List (List ℕ)) (base folder : List ℕ) → Asks words (Session base folder None) → AskNoConsole words → ⊥
asks_console words base folder asks none = let same : true ≡ false = none (Session base folder None) asks in absurd cc

-- what was no more is no more where both are told otherwise
pub later_as : (a b a' b' : ℕ) → a' ≡ a → b' ≡ b → a ≤ b → a' ≤ b'
later_as a b a' b' is is' later = subst (λ (n : ℕ). n ≤ b') (sym is) (subst (λ (m : ℕ). a ≤ m) (sym is') later)
