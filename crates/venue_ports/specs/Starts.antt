-- What stood when a read began.
use Rattle.std.specs.Prelude.{◌≡◌, List, [], ◌∷◌, ◌++◌, Option, Some, None, ℕ}

-- the bytes that were left then, and those that had been written, where they are told
pub record ReadStart : Type 0 where
  pub left : Option (List ℕ)
  pub written : Option (List ℕ)

abbrev pub start_at : Option (List ℕ) → Option (List ℕ) → ReadStart
start_at left written = record { left = left; written = written }

-- a read that begins is told behind those that were told before, or none is told any more
abbrev pub TellsStart : Option (List ReadStart) → Option (List ReadStart) → ReadStart → Type 0
TellsStart before None start = Unit {0}
TellsStart None (Some starts) start = ⊥
TellsStart (Some earlier) (Some starts) start = starts ≡ earlier ++ start ∷ []
