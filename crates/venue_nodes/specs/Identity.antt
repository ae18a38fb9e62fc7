-- Identifiers compared.
use Rattle.std.specs.Prelude.{Bool, ◌==◌}
use Rattle.venue_types.specs.declared.feature_id.FeatureId.{FeatureId}

-- the two identifiers are one
unfoldable pub is_same : FeatureId → FeatureId → Bool
is_same a b = a.0 == b.0
