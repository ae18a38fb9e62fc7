-- What shows that no walk costs less, and what shows that there is none.
use Rattle.std.specs.Prelude.{◌≡◌, ℕ, ◌+◌, ◌≤◌, List, [], ◌∷◌, map, Contains, if◌then◌else◌, ◌==◌}
use Rattle.std.specs.List.Sorted.{IsStrictlyIncreasing}
use Rattle.walk_laws.specs.Views.{LinkView, PotentialView}

-- the potential of a node: its value in the list, and the cost of the answer where the list has none for it
abbrev pub potential : {P : Type 0} → PotentialView P → ℕ → List P → ℕ → ℕ
potential view cost [] node = cost
potential view cost (p ∷ ps) node = (if view.node p == node then view.value p else potential view cost ps node)

-- each node is below the next
abbrev pub Ascends : {P : Type 0} → PotentialView P → List P → Type 0
Ascends view ps = IsStrictlyIncreasing (map view.node ps)

-- a potential for each node, 0 at the start and the cost at the end, which no link's end has above its start's by more than the link costs
pub record IsCertificate {L : Type 0} (view : LinkView L) (IsLink : L → Type 0) (a b cost : ℕ) (potential_of : ℕ → ℕ) : Type 0 where
  pub starts : potential_of a ≡ 0
  pub ends : potential_of b ≡ cost
  pub links : (link : L) → IsLink link → potential_of (view.to link) ≤ potential_of (view.from link) + view.cost link

-- nodes that have the start and not the end, and with the start of a link its end
pub record IsCut {L : Type 0} (view : LinkView L) (IsLink : L → Type 0) (a b : ℕ) (reached : List ℕ) : Type 0 where
  pub starts : Contains reached a
  pub ends : ¬ Contains reached b
  pub links : (link : L) → IsLink link → Contains reached (view.from link) → Contains reached (view.to link)
