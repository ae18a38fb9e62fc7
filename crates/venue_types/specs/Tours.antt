-- What is asked of a tour.
use Rattle.std.specs.Prelude.{ℕ, List}
use Rattle.venue_types.specs.declared.feature_id.FeatureId.{FeatureId}

-- from where to where, by which stops, in whatever order, and the name of the profile
pub record Tour : Type 0 where
  pub from : FeatureId
  pub to : FeatureId
  pub stops : List FeatureId
  pub profile : List ℕ
