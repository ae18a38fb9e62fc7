-- The program's table of words beside the definition's.
use Rattle.std.specs.Prelude.{ℕ, List}
use Rattle.std.specs.Borrow.{Bor}
use Rattle.imdf_access.specs.declared.meaning.Meaning.{Meaning}

-- the row of a word
abbrev pub word_of : Bor (List ℕ) × Meaning → List ℕ × Meaning
word_of row = (row.0.now, row.1)
