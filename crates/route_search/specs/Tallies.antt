-- How many ends a search still waits for. The code's own machinery.
use Rattle.std.specs.Prelude.{◌≡◌, ◌≢◌, ℕ, ◌+◌, ◌-◌, ◌<◌, ◌≤◌, Bool, true, false, List, AllPairs, Contains, Option, Some, length}
use Rattle.route_search.specs.declared.state.State.{State}
use Rattle.route_search.specs.declared.tally.Tally.{Tally}
use Rattle.route_search.specs.States.{cost_in, settled_in}

-- an end is settled at this cost, or the node is none
abbrev pub IsNoted : Bool → ℕ → Tally → Tally → Type 0
IsNoted true cost old new = (new.left ≡ old.left - 1) × (new.last ≡ cost)
IsNoted false cost old new = new ≡ old

-- different ends that are settled and cost no more than the last: with those that are still to come they are as many as are wanted
pub record AreSettledEnds (is_end : ℕ → Bool) (count left last : ℕ) (state : State) (found : List ℕ) : Type 0 where
  pub many : length found + left ≡ count
  pub different : AllPairs (λ a b. a ≢ b) found
  pub ends : (n : ℕ) → Contains found n → is_end n ≡ true
  pub settled : (n : ℕ) → Contains found n → settled_in state n ≡ true
  pub low : (n : ℕ) → Contains found n → cost_in state n ≤ last

abbrev pub HasSettledEnds : (ℕ → Bool) → ℕ → Tally → State → Type 0
HasSettledEnds is_end count tally state = (found : List ℕ) × AreSettledEnds is_end count tally.left tally.last state found

-- so many different ends are known to cost less than the limit
pub record AreKnownEnds (is_end : ℕ → Bool) (count limit : ℕ) (state : State) (found : List ℕ) : Type 0 where
  pub many : length found ≡ count
  pub different : AllPairs (λ a b. a ≢ b) found
  pub ends : (n : ℕ) → Contains found n → is_end n ≡ true
  pub low : (n : ℕ) → Contains found n → cost_in state n < limit

abbrev pub HasKnownEnds : (ℕ → Bool) → ℕ → Option ℕ → State → Type 0
HasKnownEnds is_end count bound state = (limit : ℕ) → bound ≡ Some limit → (found : List ℕ) × AreKnownEnds is_end count limit state found
