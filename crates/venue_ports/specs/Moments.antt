-- What a disk holds from moment to moment, and what a stop at a moment may leave of it.
use Rattle.std.specs.Prelude.{◌≡◌, ◌⊎◌, ℕ, ◌+◌, ◌-◌, ◌≤◌, ◌<◌, min, max, List, [], ◌∷◌, ◌++◌, length, take, drop}

-- where bytes were written
pub record Range : Type 0 where
  pub at : ℕ
  pub count : ℕ

-- a moment: what a read gives, what a read gave when a sync last answered Ok, and the ranges written since, the last first
pub record Moment : Type 0 where
  pub reads : List ℕ
  pub synced : List ℕ
  pub loose : List Range

-- in the range, and past the old end, there may be any bytes; all others are the old ones; the range may begin past the old end
pub record IsTorn (range : Range) (old new : List ℕ) : Type 0 where
  pub front : take (min range.at (length old)) new ≡ take range.at old
  pub behind : take (length old - (range.at + range.count)) (drop (range.at + range.count) new) ≡ drop (range.at + range.count) old
  pub no_shorter : length old ≤ length new
  pub no_longer : length new ≤ max (length old) (range.at + range.count)

-- what stood at the sync, torn by one write after the other
abbrev pub IsLeft : List ℕ → List Range → List ℕ → Type 0
IsLeft synced [] image = image ≡ synced
IsLeft synced (range ∷ earlier) image = (before : List ℕ) × IsLeft synced earlier before × IsTorn range before image

-- a stop at this moment may leave these bytes
abbrev pub Leaves : Moment → List ℕ → Type 0
Leaves m image = IsLeft m.synced m.loose image

-- a call leads from the newest moment to exactly one more; a disk that tells nothing has no moments
abbrev pub Goes : (Moment → Moment → Type 0) → List Moment → List Moment → Type 0
Goes step [] new = new ≡ []
Goes step (now ∷ past) new = (next : Moment) × step now next × (new ≡ next ∷ now ∷ past)

-- the same of a call that failed, or the disk tells nothing from then on: no finite record has room for all calls
abbrev pub GoesOrEnds : (Moment → Moment → Type 0) → List Moment → List Moment → Type 0
GoesOrEnds step old new = (new ≡ []) ⊎ Goes step old new

-- a fact of the newest moment, where moments are told
abbrev pub Now : (Moment → Type 0) → List Moment → Type 0
Now P [] = Unit {0}
Now P (now ∷ past) = P now

-- the bytes with a piece written over them
abbrev pub with_piece : List ℕ → ℕ → List ℕ → List ℕ
with_piece old at piece = take at old ++ (piece ++ drop (at + length piece) old)

-- nothing has changed
pub record HasStayed (now next : Moment) : Type 0 where
  pub reads : next.reads ≡ now.reads
  pub synced : next.synced ≡ now.synced
  pub loose : next.loose ≡ now.loose

-- a write that answered Ok
pub record HasWritten (at : ℕ) (piece : List ℕ) (now next : Moment) : Type 0 where
  pub reads : next.reads ≡ with_piece now.reads at piece
  pub synced : next.synced ≡ now.synced
  pub loose : next.loose ≡ record { at = at; count = length piece } ∷ now.loose

-- a write that failed: it may have happened in part
pub record MayHaveWritten (at : ℕ) (piece : List ℕ) (now next : Moment) : Type 0 where
  pub reads : IsTorn (record { at = at; count = length piece }) now.reads next.reads
  pub synced : next.synced ≡ now.synced
  pub loose : next.loose ≡ record { at = at; count = length piece } ∷ now.loose

-- a sync that answered Ok: a stop leaves what a read gives
pub record HasSynced (now next : Moment) : Type 0 where
  pub reads : next.reads ≡ now.reads
  pub synced : next.synced ≡ now.reads
  pub loose : next.loose ≡ []

-- what any call may make of the newest moment
pub data IsStep (now next : Moment) : Type 0 where
  has_stayed : HasStayed now next → IsStep now next
  has_written : (at : ℕ) (piece : List ℕ) → at ≤ length now.reads → HasWritten at piece now next → IsStep now next
  may_have_written : (at : ℕ) (piece : List ℕ) → MayHaveWritten at piece now next → IsStep now next
  has_synced : HasSynced now next → IsStep now next

-- what a read gives is among what a stop may leave
abbrev pub ReadIsLeft : Moment → Type 0
ReadIsLeft m = Leaves m m.reads

-- of each of these moments, all bytes that a stop may leave have P
abbrev pub AllLeft : (List ℕ → Type 0) → List Moment → Type 0
AllLeft P [] = Unit {0}
AllLeft P (m ∷ ms) = ((image : List ℕ) → Leaves m image → P image) × AllLeft P ms

-- moments were added, and whatever a stop at one of them leaves has P
pub record HasAdded (P : List ℕ → Type 0) (old new : List Moment) : Type 0 where
  pub added : List Moment
  pub grows : new ≡ added ++ old
  pub each : AllLeft P added

-- between two lists of moments, whatever a stop leaves has P, where the disk still tells
abbrev pub LeavesOnly : (List ℕ → Type 0) → List Moment → List Moment → Type 0
LeavesOnly P old [] = Unit {0}
LeavesOnly P old (now ∷ past) = HasAdded P old (now ∷ past)

-- a place that lies in none of the ranges
abbrev pub IsOutside : List Range → ℕ → Type 0
IsOutside [] place = Unit {0}
IsOutside (range ∷ earlier) place = ((place < range.at) ⊎ (range.at + range.count ≤ place)) × IsOutside earlier place

-- the greatest end of the bytes and of the ranges
abbrev pub greatest_end : List ℕ → List Range → ℕ
greatest_end synced [] = length synced
greatest_end synced (range ∷ earlier) = max (greatest_end synced earlier) (range.at + range.count)
