-- What is handed out of the costs that a search knows.
use Rattle.std.specs.Prelude.{ℕ, ◌-◌, Option, Some, None, nat_le, if◌then◌else◌}
use Rattle.route_search.specs.Labels.{no_cost}

-- the greatest cost that is handed out
abbrev pub most : Option ℕ → ℕ
most None = no_cost - 1
most (Some bound) = bound

-- what is handed out of the cost that is known of a node: nothing above the bound, since such a walk need not be a least one
unfoldable pub handed : Option ℕ → ℕ → Option ℕ
handed bound cost = if nat_le cost (most bound) then Some cost else None
