-- The code's own way, and no promise: runs of bytes that need no escape.
use Rattle.std.specs.Prelude.{ℕ, Bool, not, ◌||◌, ◌==◌, nat_lt}

-- the byte needs no escape
abbrev pub stands_as_it_is : ℕ → Bool
stands_as_it_is x = not (nat_lt x 32 || ((x == 34) || (x == 92)))
