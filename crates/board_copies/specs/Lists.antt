-- The book of the lists that somebody meant to publish: a log of them, of which the first word is the length.
use Rattle.std.specs.Prelude.{ℕ, zero, suc, ◌≡◌, ◌==◌, true, List, [], ◌∷◌, ◌++◌, length, MatchBool}
use Rattle.logbook.specs.Pages.{Cell, Step, View, Book, Named}
use Rattle.venue_state.specs.Entry.{Entry}
use Rattle.board_copies.specs.declared.counter.Tried.{Tried}

-- the list with this number
abbrev pub listed : List Tried → ℕ → List Entry
listed [] n = []
listed (x ∷ xs) zero = x.list
listed (x ∷ xs) (suc n) = listed xs n

-- the word is the length of the log. A book has two words, of which the second is left at 0
abbrev pub IsCounted : List Cell → List Tried → Type 0
IsCounted cells log = cells ≡ (length log, true) ∷ (0, true) ∷ []

-- the first word of the book
abbrev pub head_of : Book → Named
head_of b = record { tracked = true; key = 0; book = b }

-- the list that is asked for stands behind all that was seen before, and that was all; or the log is longer, and all of it is seen
abbrev pub Adds : Step Tried → View Tried ℕ → ℕ → View Tried ℕ → Type 0
Adds s v found w = MatchBool (found == s.old) (w.0 ≡ v.0 ++ s.ask ∷ []) (length w.0 ≡ found)
