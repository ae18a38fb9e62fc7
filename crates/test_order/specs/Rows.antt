-- A row of a table whose costs are small.
use Rattle.std.specs.Prelude.{◌≡◌, ℕ, ◌<◌, ◌^◌, List, Option, Some, None, slice_index_or}

pub record IsSmallRow (row : List (Option ℕ)) : Type 0 where
  pub small : (j cost : ℕ) → slice_index_or row j None ≡ Some cost → cost < 2 ^ 42
