-- What waits in a frontier.
use Rattle.std.specs.Prelude.{◌≡◌, ℕ, ◌+◌, ◌≤◌, ◌⊎◌}
use Rattle.std.specs.declared.cmp.Reverse.{Reverse}
use Rattle.std.specs.declared.cmp.Ordering.{Ordering}
use Rattle.std.specs.List.{Contains}
use Rattle.std.specs.Ordering.{nat_cmp, ordering_then}
use Rattle.std.specs.BinaryHeap.{heap_items, heap_len}
use Rattle.route_search.specs.declared.frontier.Frontier.{Frontier}

-- the lowest cost is the greatest entry
abbrev pub entry_cmp : Reverse (ℕ × ℕ) → Reverse (ℕ × ℕ) → Ordering
entry_cmp x y = ordering_then (nat_cmp y.0.0 x.0.0) (nat_cmp y.0.1 x.0.1)

abbrev pub entry : ℕ → ℕ → Reverse (ℕ × ℕ)
entry cost node = record { 0 = (cost, node) }

unfoldable pub Waits : Frontier → ℕ → ℕ → Type 0
Waits f cost node = Contains (heap_items f.heap) (entry cost node)

unfoldable pub waiting : Frontier → ℕ
waiting f = heap_len f.heap

-- the node waits from now on, too
pub record IsPushed (old new : Frontier) (cost node : ℕ) : Type 0 where
  pub len : waiting new ≡ waiting old + 1
  pub added : Waits new cost node
  pub kept : (c n : ℕ) → Waits old c n → Waits new c n
  pub only : (c n : ℕ) → Waits new c n → Waits old c n ⊎ ((cost ≡ c) × (node ≡ n))

-- the node waited at the least cost, and waits no longer
pub record IsPopped (old new : Frontier) (cost node : ℕ) : Type 0 where
  pub len : waiting new + 1 ≡ waiting old
  pub waited : Waits old cost node
  pub least : (c n : ℕ) → Waits old c n → cost ≤ c
  pub kept : (c n : ℕ) → Waits old c n → Waits new c n ⊎ ((cost ≡ c) × (node ≡ n))
  pub only : (c n : ℕ) → Waits new c n → Waits old c n
