-- The ordinals of levels.
use Rattle.std.specs.Prelude.{pos, neg_ℤ, ◌≤ℤ◌}
use Rattle.venue_types.specs.declared.features.LevelRow.{LevelRow}

-- the ordinal lies from -180 to 180
abbrev pub IsInRange : LevelRow → Type 0
IsInRange row = (neg_ℤ (pos 180) ≤ℤ row.ordinal) × (row.ordinal ≤ℤ pos 180)
