-- Lines that end with LF, and words parted by one space.
use Rattle.std.specs.Prelude.{ℕ, List, [], ◌∷◌, ◌++◌}

-- a body, and the LF that ends its line
abbrev pub line : List ℕ → List ℕ
line body = body ++ 10 ∷ []

-- a word, one space, and the words after it
abbrev pub word : List ℕ → List ℕ → List ℕ
word first rest = first ++ 32 ∷ rest
