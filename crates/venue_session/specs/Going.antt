-- A session under way, between two calls. No definition of the public contract.
use Rattle.std.specs.Prelude.{◌≡◌, ◌<◌, ◌≤◌, ◌+◌, ◌^◌, ℕ, List, ◌++◌, length, Option, Some, None}
use Rattle.std.specs.Io.KnownBytes.{Appends, Consumes}
use Rattle.venue_ports.specs.Starts.{ReadStart}
use Rattle.venue_hall.specs.Histories.{IsLegal}
use Rattle.venue_hall.specs.Facts.{Facts}
use Rattle.wire_frames.specs.Frames.{IsShort}
use Rattle.venue_session.specs.Acting.{Acted, AreOpen, Acts}
use Rattle.venue_session.specs.Ends.{Measured}
use Rattle.venue_session.specs.Moments.{ArePrompt}
use Rattle.venue_session.specs.Sessions.{IsSession}
use Rattle.venue_session.specs.declared.ends.End.{End}
use Rattle.venue_session.specs.declared.heard.Heard.{Heard}
use Rattle.venue_session.specs.declared.step_runs.Stop.{Stop}

-- what is seen of the hall and of the connection at one moment
pub record Moment : Type 0 where
  pub facts : Facts
  pub left : Option (List ℕ)
  pub written : Option (List ℕ)
  pub starts : Option (List ReadStart)
  pub faults : ℕ

abbrev pub moment : Facts → Option (List ℕ) → Option (List ℕ) → Option (List ReadStart) → ℕ → Moment
moment facts left written starts faults = record { facts = facts; left = left; written = written; starts = starts; faults = faults }

-- whenever a read began since the first moment all that had come was answered
abbrev pub WasPrompt : List (List ℕ) → Moment → Option (List ReadStart) → Type 0
WasPrompt keys first starts = ArePrompt keys first.facts first.left first.written first.starts starts

-- what is measured of the connection from one moment to another
abbrev pub measured : Moment → Moment → Measured
measured first now = record {
  left_before = first.left;
  left_after = now.left;
  written_before = first.written;
  written_after = now.written;
  faults_before = first.faults;
  faults_after = now.faults;
}

-- since the first moment so many bytes were taken, and all but those that wait were acted on: each text was written whole, none
-- of the messages closes, the connection did not fail, and whenever a read began all that had come was answered
pub record IsGoing (keys : List (List ℕ)) (first now : Moment) (taken : ℕ) (waiting : List ℕ) : Type 0 where
  pub legal : IsLegal first.facts.seen
  pub bytes : List ℕ
  pub acted : List Acted
  pub out : List ℕ
  pub took : Consumes first.left now.left bytes
  pub count : taken ≡ length bytes
  pub acts : Acts keys first.facts bytes acted out now.facts waiting
  pub are_open : AreOpen acted
  pub wrote : Appends first.written now.written out
  pub sound : now.faults ≡ first.faults
  pub most : taken < 2 ^ 40 + 81920
  pub prompt : WasPrompt keys first now.starts

-- the session that began at the first moment has ended so
pub record HasEnded (keys : List (List ℕ)) (first now : Moment) (end : End) : Type 0 where
  pub session : IsSession keys first.facts now.facts (measured first now) end
  pub later : first.faults ≤ now.faults
  pub prompt : WasPrompt keys first now.starts

-- the session goes on, or has ended so
abbrev pub GoesOrEnded : List (List ℕ) → Moment → Moment → ℕ → List ℕ → Option End → Type 0
GoesOrEnded keys first now taken waiting None = IsGoing keys first now taken waiting
GoesOrEnded keys first now taken waiting (Some end) = HasEnded keys first now end

-- less than a message stays there whatever bytes follow, while there are fewer than this in all
abbrev pub StaysShort : List ℕ → ℕ → Type 0
StaysShort bytes least = (behind : List ℕ) → length (bytes ++ behind) < least → IsShort (bytes ++ behind)

-- less than a message is there, and stays there while there are fewer than this in all
abbrev pub Awaits : List ℕ → ℕ → Type 0
Awaits bytes least = IsShort bytes × StaysShort bytes least

-- bytes came behind those that waited, or the session has ended so
abbrev pub HeardOrEnded : List (List ℕ) → Moment → Moment → ℕ → List ℕ → ℕ → Heard → Type 0
HeardOrEnded keys first now taken waiting least (Heard.More count) =
    (0 < count) × (count ≤ 81920) × IsGoing keys first now (taken + count) waiting × StaysShort waiting least
HeardOrEnded keys first now taken waiting least (Heard.Ended end) = HasEnded keys first now end

-- the session waits for more bytes, or has ended so
abbrev pub WaitsOrEnded : List (List ℕ) → Moment → Moment → ℕ → List ℕ → Stop → Type 0
WaitsOrEnded keys first now taken waiting (Stop.Waiting least) = IsGoing keys first now taken waiting × Awaits waiting least
WaitsOrEnded keys first now taken waiting (Stop.Ended end) = HasEnded keys first now end

-- the run goes on, or stops so
abbrev pub GoesOrStops : List (List ℕ) → Moment → Moment → ℕ → List ℕ → Option Stop → Type 0
GoesOrStops keys first now taken waiting None = IsGoing keys first now taken waiting
GoesOrStops keys first now taken waiting (Some stop) = WaitsOrEnded keys first now taken waiting stop
