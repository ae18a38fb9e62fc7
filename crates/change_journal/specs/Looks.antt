-- The reader's own words: what a look at a disk keeps, and what its pieces are.
use Rattle.std.specs.Prelude.{◌≡◌, ℕ, ◌+◌, ◌≤◌, List, [], ◌∷◌, ◌++◌, Option, Some, None, length, take, drop}
use Rattle.venue_ports.specs.Moments.{Moment, Now}
use Rattle.change_journal.specs.Readers.{HasOnlyRead, IsSettled}

-- what a read gives, where the disk tells
abbrev pub given : List Moment → Option (List ℕ)
given [] = None
given (now ∷ past) = Some now.reads

-- what a read gives, where the disk tells, has P
abbrev pub Gives : List Moment → (List ℕ → Type 0) → Type 0
Gives moments P = (bytes : List ℕ) → given moments ≡ Some bytes → P bytes

-- bytes were looked at: where what a read gives is kept, nothing was written, and it is still kept
pub record Looks (old new : List Moment) : Type 0 where
  pub only : Now IsSettled old → HasOnlyRead old new
  pub settled : Now IsSettled old → Now IsSettled new

-- what is known of a disk between two looks: how many bytes it has, and of the window that so many of its bytes are those from a place on
pub record IsOpened (moments : List Moment) (count start held : ℕ) (window : List ℕ) : Type 0 where
  pub settled : Now IsSettled moments
  pub length_is : Gives moments (λ bytes. count ≡ length bytes)
  pub window_is : Gives moments (λ bytes. take held window ≡ take held (drop start bytes))
  pub within : start + held ≤ count
  pub size : length window ≡ 65536
  pub most : held ≤ 65536

-- so many bytes from a place on are in the window
pub record IsHere (start held place count : ℕ) : Type 0 where
  pub begins : start ≤ place
  pub ends : place + count ≤ start + held

-- the bytes from a place to the next are these
abbrev pub Spans : ℕ → ℕ → List ℕ → List ℕ → Type 0
Spans place next piece bytes = drop place bytes ≡ piece ++ drop next bytes
