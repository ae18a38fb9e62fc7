-- Rows as they are filled, node by node: the code's own machinery, which no public contract cites.
use Rattle.std.specs.Prelude.{◌≡◌, ℕ, List, [], ◌∷◌, ◌++◌, map, length, slice_index_or, slice_set}
use Rattle.venue_types.specs.declared.feature_id.FeatureId.{FeatureId}
use Rattle.venue_nodes.specs.declared.members.Membership.{Membership}
use Rattle.venue_nodes.specs.Naming.{numbers, row_in}
use Rattle.venue_nodes.specs.Standing.{AreStandings}

-- the place that is next in the row of this number
abbrev pub seat : List (List ℕ) → ℕ → Membership
seat rows w = record { unit = w; place = length (slice_index_or rows w []) }

-- the rows, with the node at the end of each of these numbers
abbrev pub joined : ℕ → List ℕ → List (List ℕ) → List (List ℕ)
joined node [] rows = rows
joined node (w ∷ ws) rows = joined node ws (slice_set rows w (slice_index_or rows w [] ++ node ∷ []))

-- the lists are the numbers of the units that nodes name
pub record AreNumbers (owns : List FeatureId) (nodes : List (List FeatureId)) (lists : List (List ℕ)) : Type 0 where
  pub each : lists ≡ map (numbers owns) nodes

-- each unit's row, and where each node stands
pub record AreFilled (owns : List FeatureId) (nodes : List (List FeatureId)) (rows : List (List ℕ)) (seats : List (List Membership)) : Type 0 where
  pub rows_are : rows ≡ map (row_in nodes) owns
  pub count : length seats ≡ length nodes
  pub standing : AreStandings rows seats
