-- What the parts of an append make of a body that is put piece by piece.
use Rattle.std.specs.Prelude.{◌≡◌, ℕ, ◌≤◌, ◌+◌, List, [], ◌++◌, length, true}
use Rattle.venue_ports.specs.Moments.{Moment, Now}
use Rattle.venue_hall.specs.Records.{Logged}
use Rattle.change_journal.specs.Runs.{Run}
use Rattle.change_journal.specs.States.{IsPutting, IsReady, IsStaged}
use Rattle.change_journal.specs.Texts.{IsJournal, record_body}

-- bytes are added to a body, and a disk that told still tells: before it so many waited for the place where they go, now others wait for the next place
pub record Puts (place : ℕ) (waiting : List ℕ) (next : ℕ) (later added : List ℕ) (old new : List Moment) : Type 0 where
  pub runs : (records : List Logged) (gate : ℕ) (before : List ℕ) → Now (IsPutting records gate place before waiting) old
      → Run (IsJournal records) (IsPutting records gate next (before ++ added) later) old new
  pub within : Now (λ m. next ≤ length m.reads) new
  pub counts : next + length later ≡ place + (length waiting + length added)
  pub told : new ≡ [] → old ≡ []

-- the same was given up, and the gate is closed in whatever a stop may leave
pub record GivesUp (place : ℕ) (waiting : List ℕ) (old new : List Moment) : Type 0 where
  pub runs : (records : List Logged) (gate : ℕ) (before : List ℕ) → Now (IsPutting records gate place before waiting) old
      → Run (IsJournal records) (IsReady records gate true) old new

-- a body of which the last bytes waited is staged
pub record Stages (place : ℕ) (waiting : List ℕ) (old new : List Moment) : Type 0 where
  pub runs : (records : List Logged) (gate : ℕ) (entry : Logged) → Now (IsPutting records gate place (record_body entry) waiting) old
      → Run (IsJournal records) (IsStaged records gate entry) old new
  pub told : new ≡ [] → old ≡ []

-- behind the closed gate the body of each record with this text is staged
pub record StagesText (gate : ℕ) (text : List ℕ) (old new : List Moment) : Type 0 where
  pub runs : (records : List Logged) (entry : Logged) → record_body entry ≡ text → Now (IsReady records gate true) old
      → Run (IsJournal records) (IsStaged records gate entry) old new
  pub told : new ≡ [] → old ≡ []

-- a body was given up, and the gate is as closed as before
pub record KeepsClosed (gate : ℕ) (old new : List Moment) : Type 0 where
  pub runs : (records : List Logged) → Now (IsReady records gate true) old → Run (IsJournal records) (IsReady records gate true) old new
