-- The reads that began on a stream in memory.
use Rattle.std.specs.Prelude.{ℕ, zero, suc, ◌-◌, ◌≤◌, List, [], ◌∷◌, ◌++◌, Option, Some, None, Bool, true, false, length, take, drop, map}
use Rattle.std.specs.Option.{option_map}
use Rattle.venue_ports.specs.Plans.{Held}
use Rattle.venue_ports.specs.Starts.{ReadStart, start_at}
use Rattle.venue_ports.specs.declared.output.StartNote.{StartNote}

-- a read began behind so many bytes of the input, when this had been written
pub record Start : Type 0 where
  pub read : ℕ
  pub written : List ℕ

-- what was written, with its room, the reads that began, where they are told, and for how many more of them there is room
pub record Begun : Type 0 where
  pub held : Held
  pub starts : Option (List Start)
  pub spare : ℕ

-- the read of a note, by all that was written up to now
abbrev pub noted_start : List ℕ → StartNote → Start
noted_start written note = record { read = note.read; written = take note.written written }

-- the same of all notes; after a read without room for a note nothing is told
abbrev pub noted_starts : Bool → List StartNote → List ℕ → Option (List Start)
noted_starts true notes written = None
noted_starts false notes written = Some (map (noted_start written) notes)

abbrev pub begun : Held → List StartNote → ℕ → Bool → Begun
begun held notes most ended = record { held = held; starts = noted_starts ended notes held.bytes; spare = most - length notes }

-- no read began behind what was written up to now
abbrev pub IsWithin : List ℕ → StartNote → Type 0
IsWithin written note = note.written ≤ length written

-- one more, where there is room to note it, and else none
abbrev pub add_start : ℕ → Option (List Start) → Start → Option (List Start)
add_start zero before start = None
add_start (suc spare) None start = None
add_start (suc spare) (Some earlier) start = Some (earlier ++ start ∷ [])

-- what stood when a read began, of a stream with this input
abbrev pub read_start : List ℕ → Start → ReadStart
read_start input start = start_at (Some (drop start.read input)) (Some start.written)

abbrev pub read_starts : List ℕ → Option (List Start) → Option (List ReadStart)
read_starts input starts = option_map (map (read_start input)) starts
