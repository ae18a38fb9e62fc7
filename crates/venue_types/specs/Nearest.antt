-- What is asked of the nearest.
use Rattle.std.specs.Prelude.{ℕ, List, Bool}
use Rattle.venue_types.specs.declared.feature_id.FeatureId.{FeatureId}

-- from where, amenities of which category, the name of the profile, how many at most, and whether what shows it is asked for
pub record Nearest : Type 0 where
  pub from : FeatureId
  pub category : List ℕ
  pub profile : List ℕ
  pub limit : ℕ
  pub certificate : Bool
