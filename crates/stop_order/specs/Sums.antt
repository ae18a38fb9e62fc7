-- What the table of sums holds: for each set of stops, a bit a stop, the least that a way costs from a place through them to the end.
use Rattle.std.specs.Prelude.{◌≡◌, ℕ, ◌+◌, ◌-◌, ◌*◌, ◌<◌, ◌≤◌, ◌^◌, List, [], ◌∷◌, Option, Some, None, slice_index}
use Rattle.std.specs.Int.{bit_at}
use Rattle.stop_order.specs.Orders.{cost_between}
use Rattle.stop_order.specs.declared.costs.Costs.{Costs}
use Rattle.stop_order.specs.declared.legs.Legs.{Legs}
use Rattle.stop_order.specs.declared.next.Choice.{Choice}
use Rattle.stop_order.specs.declared.table.Table.{Table}

-- a cost, and more than all legs of a tour together where there is none
abbrev pub or_far : Option ℕ → ℕ
or_far (Some cost) = cost
or_far None = 2 ^ 50

-- what it costs from a place to another
abbrev pub leg : Legs → ℕ → ℕ → ℕ
leg legs i j = slice_index legs.costs (10 * i + j)

-- what it costs from a place by these stops, in turn, to the end
abbrev pub way_sum : Legs → ℕ → List ℕ → ℕ
way_sum legs i [] = leg legs i (legs.stops + 1)
way_sum legs i (stop ∷ stops) = leg legs i (stop + 1) + way_sum legs (stop + 1) stops

-- these are the stops of the set, each once
abbrev pub IsWay : ℕ → List ℕ → Type 0
IsWay set [] = set ≡ 0
IsWay set (stop ∷ stops) = (bit_at set stop ≡ 1) × IsWay (set - 2 ^ stop) stops

-- the legs are those of the costs
pub record AreLegs (costs : Costs) (legs : Legs) : Type 0 where
  pub count : legs.stops ≡ costs.stops
  pub each : (i j : ℕ) → i < 10 → j < 10 → leg legs i j ≡ or_far (cost_between costs i j)

-- eight stops at most, and no leg is dearer than far
pub record AreCapped (legs : Legs) : Type 0 where
  pub few : legs.stops ≤ 8
  pub capped : (k : ℕ) → slice_index legs.costs k ≤ 2 ^ 50

-- so much costs a way from the place through the set, and none costs less
pub record IsLeast (legs : Legs) (set place sum : ℕ) : Type 0 where
  pub reached : (way : List ℕ) × IsWay set way × (way_sum legs place way ≡ sum)
  pub below : (way : List ℕ) → IsWay set way → sum ≤ way_sum legs place way

-- what the table has for a set and a stop
abbrev pub sum_in : Table → ℕ → ℕ → ℕ
sum_in table set stop = slice_index table.sums (8 * set + stop)

-- the sums of all sets before this one are known, from the stops outside them
abbrev pub IsKnown : Legs → Table → ℕ → Type 0
IsKnown legs table set = (s j : ℕ) → s < set → j < legs.stops → bit_at s j ≡ 0 → IsLeast legs s (j + 1) (sum_in table s j)

-- the way leads to the next stop, and on through the others at their least
abbrev pub sum_by : Legs → Table → ℕ → ℕ → ℕ → ℕ
sum_by legs table set place stop = leg legs place (stop + 1) + sum_in table (set - 2 ^ stop) stop

pub record IsSum (legs : Legs) (table : Table) (set place : ℕ) (next : Choice) : Type 0 where
  pub has : bit_at set next.stop ≡ 1
  pub sum : next.sum ≡ sum_by legs table set place next.stop

-- and none of the stops of the set would be better
pub record IsNext (legs : Legs) (table : Table) (set place : ℕ) (next : Choice) : Type 0 where
  pub reached : IsSum legs table set place next
  pub below : (stop : ℕ) → bit_at set stop ≡ 1 → next.sum ≤ sum_by legs table set place stop
