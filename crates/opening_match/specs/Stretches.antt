-- The entries of a level between two longitudes.
use Rattle.std.specs.Prelude.{◌≡◌, ℕ, ◌<◌, ◌≤◌, ◌==◌, nat_lt, ℤ, int_lt, Bool, true, false, ◌&&◌, ◌||◌, List, Contains, length, slice_index_or}
use Rattle.venue_types.specs.declared.feature_id.FeatureId.{FeatureId}
use Rattle.opening_match.specs.declared.entries.Entry.{Entry}
use Rattle.opening_match.specs.declared.frame.Frame.{Frame}
use Rattle.opening_match.specs.Entries.{AreApart}
use Rattle.opening_match.specs.Frames.{IsAtWidth}

-- the entry is of a lesser level, or of this one and to the west of the bound
abbrev pub is_before : FeatureId → ℤ → Entry → Bool
is_before level bound e = nat_lt e.level.0 level.0 || (e.level.0 == level.0 && int_lt e.x bound)

-- the first entries, so many, are before the bound, and no others
pub record IsFront (entries : List Entry) (level : FeatureId) (bound : ℤ) (count : ℕ) : Type 0 where
  pub few : count ≤ length entries
  pub before : (k : ℕ) (d : Entry) → k < count → is_before level bound (slice_index_or entries k d) ≡ true
  pub rest : (k : ℕ) (d : Entry) → count ≤ k → k < length entries → is_before level bound (slice_index_or entries k d) ≡ false

-- of the entries those of the level that begin between the west and the east of the frame, and no others of another level
pub record IsStretch (entries : List Entry) (level : FeatureId) (frame : Frame) (tolerance : ℕ) (stretch : List Entry) : Type 0 where
  pub own : (e : Entry) → Contains stretch e → Contains entries e × (e.level ≡ level)
  pub whole : (e : Entry) → Contains entries e → e.level ≡ level → IsAtWidth frame tolerance e.x → Contains stretch e
  pub apart : AreApart stretch
