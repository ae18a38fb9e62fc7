-- How the code goes about the end of a head: a line at a time. No definition of the public contract.
use Rattle.std.specs.Prelude.{ℕ, zero, suc, Bool, true, false, not, List, [], ◌∷◌, ◌==◌}
use Rattle.httparse.specs.Grammar.{AllPass}
use Rattle.wire_frames.specs.Heads.{HeadState, front, fresh}

-- the bytes have no LF
abbrev pub IsUnbroken : List ℕ → Type 0
IsUnbroken bytes = AllPass (λ b. not (b == 10)) bytes

-- a line without its LF that is empty
abbrev pub is_blank_line : List ℕ → Bool
is_blank_line [] = true
is_blank_line (b ∷ []) = b == 13
is_blank_line (b ∷ c ∷ bytes) = false

-- the place behind lines of which so many weren't empty
abbrev pub place_behind : ℕ → HeadState
place_behind zero = front
place_behind (suc lines) = fresh
