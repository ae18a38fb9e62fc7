-- Where nodes stand in rows of members.
use Rattle.std.specs.Prelude.{◌≡◌, ℕ, ◌+◌, List, [], ◌∷◌, ◌++◌, ◌==◌, map, slice_index_or}
use Rattle.venue_nodes.specs.declared.members.Membership.{Membership}
use Rattle.venue_nodes.specs.Members.{places_where}

-- where the node stands in the rows, which are numbered from w
abbrev pub standings : ℕ → ℕ → List (List ℕ) → List Membership
standings node w [] = []
standings node w (row ∷ rows) = map (λ p. record { unit = w; place = p }) (places_where (λ m. m == node) 0 row) ++ standings node (w + 1) rows

-- for each node where it stands, and nothing for what is no node
pub record AreStandings (rows : List (List ℕ)) (seats : List (List Membership)) : Type 0 where
  pub each : (node : ℕ) → slice_index_or seats node [] ≡ standings node 0 rows
