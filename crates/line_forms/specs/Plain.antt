-- The code's own way, no promise: words that may spell a number are not empty and have no leading zero.
use Rattle.std.specs.Prelude.{ℕ, List, Bool, not, ◌&&◌, ◌||◌, ◌==◌, length, slice_index}

abbrev pub is_plain : List ℕ → Bool
is_plain word = not (length word == 0) && (not (slice_index word 0 == 48) || (length word == 1))
