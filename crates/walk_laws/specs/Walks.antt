-- Walks over a family of links: L is the type of the links, IsLink says which of them are of the family.
use Rattle.std.specs.Prelude.{◌≡◌, ℕ, ◌≤◌, List, [], ◌∷◌, sum_by}
use Rattle.walk_laws.specs.Views.{LinkView}

-- each is a link of the family, the first starts at a, each further one where the one before it ends, and the last ends at b; no links lead from a to b where a is b
abbrev pub IsWalk : {L : Type 0} → LinkView L → (L → Type 0) → ℕ → ℕ → List L → Type 0
IsWalk view IsLink a b [] = a ≡ b
IsWalk view IsLink a b (link ∷ links) = IsLink link × (view.from link ≡ a) × IsWalk view IsLink (view.to link) b links

-- the sum of the costs of its links
abbrev pub walk_cost : {L : Type 0} → LinkView L → List L → ℕ
walk_cost view walk = sum_by view.cost walk

-- a walk leads from a to b
abbrev pub HasWalk : {L : Type 0} → LinkView L → (L → Type 0) → ℕ → ℕ → Type 0
HasWalk {L} view IsLink a b = (walk : List L) × IsWalk view IsLink a b walk

-- no walk leads from a to b
abbrev pub HasNoWalk : {L : Type 0} → LinkView L → (L → Type 0) → ℕ → ℕ → Type 0
HasNoWalk {L} view IsLink a b = (walk : List L) → ¬ IsWalk view IsLink a b walk

-- no walk from a to b costs less
abbrev pub CostsAtLeast : {L : Type 0} → LinkView L → (L → Type 0) → ℕ → ℕ → ℕ → Type 0
CostsAtLeast {L} view IsLink a b cost = (walk : List L) → IsWalk view IsLink a b walk → cost ≤ walk_cost view walk

-- a walk from a to b of this cost, where no walk from a to b costs less
pub record IsLeast {L : Type 0} (view : LinkView L) (IsLink : L → Type 0) (a b : ℕ) (walk : List L) (cost : ℕ) : Type 0 where
  pub leads : IsWalk view IsLink a b walk
  pub costs : walk_cost view walk ≡ cost
  pub least : CostsAtLeast view IsLink a b cost
