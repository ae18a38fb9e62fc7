-- Where the head of a request ends: with its first empty line after a line that isn't empty (RFC 9112, sections 2.1 and 2.2).
use Rattle.std.specs.Prelude.{ℕ, ◌+◌, Bool, false, List, [], ◌∷◌, if◌then◌else◌, ◌==◌, Option, Some, None}
use Rattle.wire_frames.specs.declared.heads.Extent.{Extent}

-- where the reading of a head stands: in front, behind a CR there, within a line, at the start of a fresh line, behind a CR there
pub data HeadState : Type 0 where
  front front_return line fresh fresh_return : HeadState

-- the place behind one more byte: LF ends a line, and a CR in front of it is a part of that end
abbrev pub step : HeadState → ℕ → HeadState
step front b = if b == 10 then front else if b == 13 then front_return else line
step front_return b = if b == 10 then front else line
step line b = if b == 10 then fresh else line
step fresh b = if b == 13 then fresh_return else line
step fresh_return b = line

-- the byte ends an empty line behind one that isn't empty
abbrev pub ends_head : HeadState → ℕ → Bool
ends_head front b = false
ends_head front_return b = false
ends_head line b = false
ends_head fresh b = b == 10
ends_head fresh_return b = b == 10

-- the byte ends a line that isn't empty
abbrev pub ends_line : HeadState → ℕ → Bool
ends_line front b = false
ends_line front_return b = false
ends_line line b = b == 10
ends_line fresh b = false
ends_line fresh_return b = false

-- the extent of a head that goes on with these bytes, behind so many bytes and lines of it
abbrev pub extent_from : HeadState → ℕ → ℕ → List ℕ → Option Extent
extent_from place length lines [] = None
extent_from place length lines (b ∷ bytes) =
    if ends_head place b then Some (record { length = length + 1; lines = lines })
    else extent_from (step place b) (length + 1) (if ends_line place b then lines + 1 else lines) bytes

-- how far the head at the front of the bytes goes, and how many of its lines aren't empty; none where it has no end
abbrev pub head_extent : List ℕ → Option Extent
head_extent bytes = extent_from front 0 0 bytes
