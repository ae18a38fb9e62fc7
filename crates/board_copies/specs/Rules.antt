-- The rule over the two copies, and what each of its steps tells.
use Rattle.std.specs.Prelude.{ℕ, ◌≡◌, true, false, List, [], ◌∷◌, ◌++◌}
use Rattle.std.specs.Arc.{arc_value}
use mathlib.Core.Option.{some}
use mathlib.Core.List.{IsPrefix}
use lib.ListN.{get_elem?}
use Rattle.logbook.specs.Pages.{Book}
use Rattle.venue_state.specs.Entry.{Entry}
use Rattle.board_copies.specs.declared.view.View.{View}
use Rattle.board_copies.specs.declared.held.Side.{Side}
use Rattle.board_copies.specs.Stamps.{entries_of}

-- the entries of a copy, of which its board is the replay
abbrev pub list_of : Side → List Entry
list_of copy = entries_of (arc_value copy.held).stamp

-- the book in which they have their number
abbrev pub book_of : Side → Book
book_of copy = (arc_value copy.held).stamp.seen.book

-- the book that a bound view knows
abbrev pub known : View → Book
known v = record { number = v.number; log_name = v.log_name; cells_name = v.cells_name }

-- what was seen begins this list, and a book that is known is this one
abbrev pub Fits : List Entry → Book → View → Type 0
Fits h b v = IsPrefix v.seen h × (v.bound ≡ true → known v ≡ b)

-- every list that anyone saw is a beginning of the published one, and every book that is known is the copies'
abbrev pub Kept : Side → List View → Type 0
Kept copy views = (seat : ℕ) (v : View) → get_elem? views seat ≡ some v → Fits (list_of copy) (book_of copy) v

-- nothing was seen, and no book is known
abbrev pub nobody : View
nobody = record { seen = []; bound = false; number = 0; log_name = 0; cells_name = 0 }

-- this list was seen, and this book is known
abbrev pub whole : List Entry → Book → View
whole h b = record { seen = h; bound = true; number = b.number; log_name = b.log_name; cells_name = b.cells_name }

-- all of this copy is known: what was seen is its list, and the book that is known is its book
abbrev pub Knows : View → Side → Type 0
Knows v copy = v ≡ whole (list_of copy) (book_of copy)

-- a bound view stays so, to the same book
abbrev pub StaysBound : View → View → Type 0
StaysBound v w = v.bound ≡ true → (w.bound ≡ true) × (known w ≡ known v)

-- the view that was told of the book which the other knows
abbrev pub informed : View → View → View
informed v w = record { seen = v.seen; bound = w.bound; number = w.number; log_name = w.log_name; cells_name = w.cells_name }

-- a reader enters: what it saw begins the published list, and from now on it knows all of the published copy
abbrev pub Sees : View → Side → Side → View → Type 0
Sees v x y w = Fits (list_of y) (book_of y) v × Knows w y

-- the writer publishes: from now on it knows all of what it published
abbrev pub Publishes : View → Side → Side → View → Type 0
Publishes v x y w = Knows w y

-- the list is longer by one entry
abbrev pub IsOneLonger : List Entry → List Entry → Type 0
IsOneLonger h k = (e : Entry) × (k ≡ h ++ e ∷ [])
