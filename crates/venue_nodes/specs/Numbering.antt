-- Identifiers by their numbers in a list.
use Rattle.std.specs.Prelude.{◌≡◌, ℕ, ◌<◌, List, Option, Some}
use Rattle.std.specs.List.{position_from}
use Rattle.venue_types.specs.declared.feature_id.FeatureId.{FeatureId}
use Rattle.feature_rows.specs.declared.index.Index.{Index}
use Rattle.feature_rows.specs.Indexes.{place_of}
use Rattle.venue_nodes.specs.Identity.{is_same}

-- the number of the first of these identifiers that is this one, from 0
unfoldable pub number_among : List FeatureId → FeatureId → Option ℕ
number_among ids id = position_from (λ other. is_same other id) 0 ids

-- the index has no place past the greatest number that a node or what can be closed may have
pub record HasFew (index : Index) : Type 0 where
  pub few : (id : FeatureId) (k : ℕ) → place_of index id ≡ Some k → k < 400000
