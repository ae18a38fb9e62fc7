-- What `session BASE FOLDER` does where the folder makes a venue.
use Rattle.std.specs.Prelude.{◌≡◌, ℕ, List, Option, None, IfSome}
use Rattle.std.specs.Arc.{arc_value}
use Rattle.std.specs.declared.alloc.Global.{Global}
use Rattle.std.specs.declared.sync.Arc.{Arc}
use Rattle.venue_ports.specs.Files.{StoredFile}
use Rattle.venue_session.specs.Venues.{SeenVenue as Venue}
use Rattle.venue_session.specs.Facts.{Facts}
use Rattle.version_board.specs.OneThread.{one_thread}
use Rattle.venue_session.specs.Openings.{opening_history}
use Rattle.venue_session.specs.Ends.{Measured}
use Rattle.venue_session.specs.Moments.{Reads, IsPrompt}
use Rattle.venue_session.specs.Sessions.{IsSession, HasServed}
use Rattle.venue_session.specs.declared.ends.End.{End}
use Rattle.venue_commands.specs.declared.status.Status.{Status}
use Rattle.venue_commands.specs.declared.status.Status.TheVariants.{Done, Negative, Fault, Memory}
use Rattle.venue_commands.specs.Checked.{HasVenue}
use Rattle.venue_commands.specs.Commands.{Session, IsAsked, words_of}
use Rattle.venue_commands.specs.Runs.{Run}

-- the status with which a session ends
abbrev pub end_status : End → Status
end_status End.Done = Done
end_status (End.Cut count) = Negative
end_status (End.Refused status) = Negative
end_status End.Worn = Negative
end_status End.LinkFault = Fault
end_status End.OutOfMemory = Memory

-- a hall over a new history, whose one entry publishes the venue, by worker 0, over folders below a base that failed so often
pub record IsOpened (files : Option (List StoredFile)) (base : List ℕ) (venue : Venue) (faults : ℕ) (facts : Facts) : Type 0 where
  pub shared : Arc Venue Global
  pub publishes : arc_value shared ≡ venue
  pub facts_are : facts ≡ one_thread files base (opening_history shared) faults 0

-- the console, as the link of a session
abbrev pub console_of : Run → Measured
console_of run = record {
  left_before = run.left;
  left_after = run.left_now;
  written_before = run.written;
  written_after = run.written_now;
  faults_before = run.console;
  faults_after = run.console_now;
}

-- the reads of the console
abbrev pub reads_of : Run → Reads
reads_of run = record { left = run.left; written = run.written; before = run.starts; after = run.starts_now }

-- the words ask for a session, the folder makes a venue, and the hall that it opens served the console; nothing else was printed
pub record Served (words : List (List ℕ)) (files : Option (List StoredFile)) (run : Run) (status : Status) : Type 0 where
  pub base : List ℕ
  pub folder : List ℕ
  pub form : IsAsked (Session base folder None)
  pub spelled : words ≡ words_of (Session base folder None)
  pub venue : Venue
  pub made : IfSome files (λ fs. HasVenue fs base folder venue)
  pub opening : Facts
  pub opened : IsOpened files base venue run.folders opening
  pub closing : Facts
  pub end : End
  pub session : IsSession venue.settings.staff_keys opening closing (console_of run) end
  pub prompt : IsPrompt venue.settings.staff_keys opening (reads_of run)
  pub hall : HasServed opening closing
  pub folders : run.folders_now ≡ closing.faults
  pub ended : status ≡ end_status end
