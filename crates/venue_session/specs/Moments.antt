-- What a session owes when it reads: nobody waits for a reply, and nothing is read behind the end.
use Rattle.std.specs.Prelude.{◌≡◌, ℕ, List, ◌++◌, All, Option, Some, None}
use Rattle.std.specs.Io.KnownBytes.{Appends, Consumes}
use Rattle.venue_ports.specs.Starts.{ReadStart}
use Rattle.venue_ports.specs.declared.stream.Stream.{Ghosts as Streams}
use Rattle.venue_hall.specs.Facts.{Facts}
use Rattle.venue_session.specs.Acting.{Acts}
use Rattle.venue_session.specs.Ends.{Run, IsWaiting}

-- what a connection tells of its reads since a moment: what was left and what had been written then, and what stood when each read
-- began, of those before and of all
pub record Reads : Type 0 where
  pub left : Option (List ℕ)
  pub written : Option (List ℕ)
  pub before : Option (List ReadStart)
  pub after : Option (List ReadStart)

-- what is told between a connection before and the same connection after
abbrev pub reads_between : {S : Type 0} → Streams S → S → S → Reads
reads_between L old new = record { left = L.left old; written = L.written old; before = L.starts old; after = L.starts new }

-- when the read began every whole message of the bytes that had come was acted on and its text written, none of these messages
-- closes, and the bytes behind them are less than a message, so no head that is refused
pub record IsAllAnswered (keys : List (List ℕ)) (old : Facts) (left written : Option (List ℕ)) (start : ReadStart) : Type 0 where
  pub run : Run
  pub came : Consumes left start.left run.bytes
  pub acts : Acts keys old run.bytes run.acted run.out run.facts run.rest
  pub wrote : Appends written start.written run.out
  pub waits : IsWaiting run

-- it was so when each read began that is told now and was not before
abbrev pub ArePrompt : List (List ℕ) → Facts → Option (List ℕ) → Option (List ℕ) → Option (List ReadStart) → Option (List ReadStart) → Type 0
ArePrompt keys old left written before None = Unit {0}
ArePrompt keys old left written None (Some starts) = ⊥
ArePrompt keys old left written (Some earlier) (Some starts) =
    (since : List ReadStart) × (starts ≡ earlier ++ since) × All (IsAllAnswered keys old left written) since

-- the session was prompt: whenever it read, all that had come was answered
abbrev pub IsPrompt : List (List ℕ) → Facts → Reads → Type 0
IsPrompt keys old reads = ArePrompt keys old reads.left reads.written reads.before reads.after
