-- Orders of stops on the way from a place to another, and what they cost.
use Rattle.std.specs.Prelude.{◌≡◌, ℕ, ◌+◌, ◌<◌, ◌≤◌, ◌^◌, List, [], ◌∷◌, length, All, Option, Some, None, option_and_then, slice_get}
use Rattle.stop_order.specs.declared.costs.Costs.{Costs}

-- What it costs from one place to another, where one leads there. The places of the table are `from`, the stops, and `to` behind the last stop.
abbrev pub cost_between : Costs → ℕ → ℕ → Option ℕ
cost_between costs i j = option_and_then (λ row. option_and_then (λ cost. cost) (slice_get row j)) (slice_get costs.rows i)

abbrev pub sum_of_both : Option ℕ → Option ℕ → Option ℕ
sum_of_both (Some a) (Some b) = Some (a + b)
sum_of_both _ _ = None

-- what it costs from a place of the table by these stops, in turn, to the end; nothing where one of the legs has no cost
abbrev pub way_cost : Costs → ℕ → List ℕ → Option ℕ
way_cost costs i [] = cost_between costs i (costs.stops + 1)
way_cost costs i (stop ∷ stops) = sum_of_both (cost_between costs i (stop + 1)) (way_cost costs (stop + 1) stops)

-- and from the start
abbrev pub order_cost : Costs → List ℕ → Option ℕ
order_cost costs order = way_cost costs 0 order

-- each number below the number of stops stands in the list once
pub record IsOrder (stops : ℕ) (order : List ℕ) : Type 0 where
  pub all : length order ≡ stops
  pub below : All (λ stop. stop < stops) order
  pub once : (i j stop : ℕ) → slice_get order i ≡ Some stop → slice_get order j ≡ Some stop → i ≡ j

-- the order costs so much, and no order costs less
pub record IsBest (costs : Costs) (order : List ℕ) (cost : ℕ) : Type 0 where
  pub visits : IsOrder costs.stops order
  pub costs_it : order_cost costs order ≡ Some cost
  pub least : (other : List ℕ) (less : ℕ) → IsOrder costs.stops other → order_cost costs other ≡ Some less → cost ≤ less

-- each cost is below 2^42, so that ten of them fit into 64 bits
pub record AreSmall (costs : Costs) : Type 0 where
  pub small : (i j cost : ℕ) → cost_between costs i j ≡ Some cost → cost < 2 ^ 42
