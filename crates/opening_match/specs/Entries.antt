-- Where openings begin, as it is kept.
use Rattle.std.specs.Prelude.{◌≡◌, ◌≢◌, ℕ, ◌<◌, ◌≤◌, ◌≤ℤ◌, List, Some, All, AllPairs, Contains, length, slice_get, slice_index_or}
use Rattle.venue_types.specs.declared.features.OpeningRow.{OpeningRow}
use Rattle.venue_types.specs.declared.point.Point.{Point}
use Rattle.opening_match.specs.declared.entries.Entry.{Entry}

-- each opening has a vertex, and one more
abbrev pub HaveVertices : List OpeningRow → Type 0
HaveVertices openings = All (λ (opening : OpeningRow). 2 ≤ length opening.line.points) openings

-- where the entry says that its opening begins
abbrev pub start_of : Entry → Point
start_of e = record { x = e.x; y = e.y }

-- the entry has the level of the opening at its place, and one of its vertices
pub record IsEntry (openings : List OpeningRow) (e : Entry) : Type 0 where
  pub opening : OpeningRow
  pub there : slice_get openings e.place ≡ Some opening
  pub level : e.level ≡ opening.level
  pub start : Contains opening.line.points (start_of e)

-- the entries of the first openings, so many, in their order
pub record AreFirst (openings : List OpeningRow) (count : ℕ) (entries : List Entry) : Type 0 where
  pub all : length entries ≡ count
  pub own : (k : ℕ) (e : Entry) → slice_get entries k ≡ Some e → (e.place ≡ k) × IsEntry openings e

-- the second entry is of no lesser level, and on one level no farther west
pub record IsNotBehind (a b : Entry) : Type 0 where
  pub level : a.level.0 ≤ b.level.0
  pub x : a.level.0 ≡ b.level.0 → a.x ≤ℤ b.x

-- the entries are in order
pub record AreRising (entries : List Entry) : Type 0 where
  pub rise : (i j : ℕ) (d : Entry) → i ≤ j → j < length entries → IsNotBehind (slice_index_or entries i d) (slice_index_or entries j d)

-- no two of them have one place
abbrev pub AreApart : List Entry → Type 0
AreApart entries = AllPairs (λ (a b : Entry). a.place ≢ b.place) entries

-- one entry for each opening
pub record AreEntries (openings : List OpeningRow) (entries : List Entry) : Type 0 where
  pub own : (e : Entry) → Contains entries e → IsEntry openings e
  pub whole : (o : ℕ) → o < length openings → (e : Entry) × Contains entries e × (e.place ≡ o)
  pub apart : AreApart entries
