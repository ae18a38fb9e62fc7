-- How a session may end.
use Rattle.std.specs.Prelude.{◌≡◌, ◌⊎◌, ℕ, ◌<◌, ◌≤◌, ◌^◌, true, List, [], ◌++◌, length, Option}
use Rattle.std.specs.Io.KnownBytes.{Appends, IsAtEnd}
use mathlib.Core.List.{IsPrefix}
use Rattle.venue_ports.specs.Causes.{Rose}
use Rattle.venue_ports.specs.declared.stream.Stream.{Ghosts as Streams}
use Rattle.venue_hall.specs.Facts.{Facts}
use Rattle.wire_frames.specs.Frames.{IsShort, IsRefused}
use Rattle.wire_frames.specs.declared.refusals.Refusal.{Refusal}
use Rattle.wire_replies.specs.Heads.{refusal_status}
use Rattle.wire_replies.specs.Replies.{reply_text}
use Rattle.wire_replies.specs.declared.response.Response.TheVariants.{No}
use Rattle.venue_session.specs.Acting.{Acted, text_of, IsActed, AreOpen, ClosesLast}
use Rattle.venue_session.specs.Steps.{told_by}
use Rattle.venue_session.specs.declared.ends.End.{End}

-- what is measured of a connection over a session: the bytes left to be read and the bytes written, where they are told, and its faults
pub record Measured : Type 0 where
  pub left_before : Option (List ℕ)
  pub left_after : Option (List ℕ)
  pub written_before : Option (List ℕ)
  pub written_after : Option (List ℕ)
  pub faults_before : ℕ
  pub faults_after : ℕ

-- what is measured between a connection before and the same connection after
abbrev pub connection_between : {S : Type 0} → Streams S → S → S → Measured
connection_between L old new = record {
  left_before = L.left old;
  left_after = L.left new;
  written_before = L.written old;
  written_after = L.written new;
  faults_before = L.faults old;
  faults_after = L.faults new;
}

-- what was done with the bytes that were taken: the messages acted on, the text of their answers, the hall after them, the rest
pub record Run : Type 0 where
  pub bytes : List ℕ
  pub acted : List Acted
  pub out : List ℕ
  pub facts : Facts
  pub rest : List ℕ

-- the text by which a head is refused, which always closes
abbrev pub refused_text : Refusal → List ℕ
refused_text refusal = reply_text (No refusal) true

-- this was written in all
abbrev pub Wrote : Measured → List ℕ → Type 0
Wrote connection text = Appends connection.written_before connection.written_after text

-- the connection did not fail
abbrev pub IsSound : Measured → Type 0
IsSound connection = connection.faults_after ≡ connection.faults_before

-- more bytes would be acted on: nothing has closed, and less than a message is left
abbrev pub IsWaiting : Run → Type 0
IsWaiting run = AreOpen run.acted × IsShort run.rest

-- nothing has closed, and the head that is left is refused
abbrev pub IsStopped : Run → Refusal → Type 0
IsStopped run refusal = AreOpen run.acted × IsRefused run.rest refusal

-- all was answered, and the connection told its end; or a message that closes was answered
abbrev pub IsDone : Run → Measured → Type 0
IsDone run connection = (AreOpen run.acted × (run.rest ≡ []) × IsAtEnd connection.left_after) ⊎ ClosesLast run.acted

-- the connection told its end within a message, of which so many bytes are there
abbrev pub IsCut : Run → Measured → ℕ → Type 0
IsCut run connection count = IsWaiting run × (0 < count) × (count ≡ length run.rest) × IsAtEnd connection.left_after

-- where a connection failed: while bytes were awaited, or within the text for a message or for a refused head, of which part was written
abbrev pub IsBroken : List (List ℕ) → Run → Facts → List ℕ → Type 0
IsBroken keys run new part =
    (IsWaiting run × (new ≡ run.facts) × (part ≡ []))
    ⊎ (AreOpen run.acted × (m : Acted) × IsActed keys run.facts run.rest m new × IsPrefix part (text_of m))
    ⊎ ((refusal : Refusal) × IsStopped run refusal × (new ≡ run.facts) × IsPrefix part (refused_text refusal))

-- where memory ran out: before a byte was taken, or behind what was answered and one message more, an accepted change whose text is
-- missing
abbrev pub IsStarved : List (List ℕ) → Run → Facts → Type 0
IsStarved keys run new = ((new ≡ run.facts) × (run.bytes ≡ [])) ⊎ ((m : Acted) × IsActed keys run.facts run.rest m new × (told_by m.answer ≡ 1))

-- what each end says of the run, of the connection, and of the hall at the end
abbrev pub Ended : List (List ℕ) → End → Run → Measured → Facts → Type 0
Ended keys End.Done run connection new = IsSound connection × Wrote connection run.out × (new ≡ run.facts) × IsDone run connection
Ended keys (End.Cut count) run connection new = IsSound connection × Wrote connection run.out × (new ≡ run.facts) × IsCut run connection count
Ended keys (End.Refused status) run connection new =
    IsSound connection × (new ≡ run.facts)
    × (refusal : Refusal) × IsStopped run refusal × (status ≡ refusal_status refusal) × Wrote connection (run.out ++ refused_text refusal)
Ended keys End.Worn run connection new = IsSound connection × Wrote connection run.out × (new ≡ run.facts) × IsWaiting run × (2 ^ 40 ≤ length run.bytes)
Ended keys End.LinkFault run connection new =
    Rose connection.faults_before connection.faults_after
    × (part : List ℕ) × Wrote connection (run.out ++ part) × IsBroken keys run new part
Ended keys End.OutOfMemory run connection new = IsSound connection × Wrote connection run.out × AreOpen run.acted × IsStarved keys run new
