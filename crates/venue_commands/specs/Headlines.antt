-- The promise of `session BASE FOLDER`, from the bytes of the folder and the console to the bytes written.
use Rattle.std.specs.Prelude.{◌≡◌, ◌⊎◌, ℕ, List, ◌++◌, Option, Some, None}
use Rattle.std.specs.Arc.{arc_value}
use Rattle.std.specs.declared.alloc.Global.{Global}
use Rattle.std.specs.declared.sync.Arc.{Arc}
use Rattle.venue_ports.specs.Files.{StoredFile}
use Rattle.venue_session.specs.Venues.{SeenVenue as Venue}
use Rattle.version_board.specs.Making.{shelf_of}
use Rattle.venue_session.specs.Openings.{opening_history}
use Rattle.venue_session.specs.Headline.{Headline}
use Rattle.venue_commands.specs.declared.status.Status.{Status}
use Rattle.venue_commands.specs.declared.status.Status.TheVariants.{Done, Negative}
use Rattle.venue_commands.specs.Checked.{NoVenue, HasVenue}
use Rattle.venue_commands.specs.Commands.{Session, IsAsked, words_of}
use Rattle.venue_commands.specs.Runs.{Run}

-- the folder makes a venue, whose publication by worker 0 begins the history, and what was written answers the messages that came
pub record Answered (files : List StoredFile) (base folder came left written : List ℕ) : Type 0 where
  pub venue : Venue
  pub made : HasVenue files base folder venue
  pub shared : Arc Venue Global
  pub publishes : arc_value shared ≡ venue
  pub headline : Headline venue.settings.staff_keys (shelf_of (Some files) base) 1 (opening_history shared) came left written

-- where the words ask for a session, files and console tell their bytes, and the status is 0 or 1, what was written answers what
-- came; or there is no venue, and that was told
abbrev pub SaysHeadline : List (List ℕ) → Option (List StoredFile) → Run → Status → Type 0
SaysHeadline words told run status = (base folder : List ℕ) (files : List StoredFile) (came before : List ℕ)
    → IsAsked (Session base folder None) → words ≡ words_of (Session base folder None) → told ≡ Some files → run.left ≡ Some came → run.written ≡ Some before
    → (status ≡ Done) ⊎ (status ≡ Negative)
    → (left : List ℕ) × (written : List ℕ) × (run.left_now ≡ Some left) × (run.written_now ≡ Some (before ++ written))
    × (NoVenue files base folder written status ⊎ Answered files base folder came left written)
