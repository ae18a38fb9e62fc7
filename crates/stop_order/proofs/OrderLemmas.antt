-- Orders as ways through the set of all stops, and what they cost.
use Rattle.std.proofs.Common.{◌≡◌, ℕ, suc, ◌+◌, ◌-◌, ◌*◌, ◌^◌, ◌<◌, ◌≤◌, List, [], ◌∷◌, length, get_or, Option, Some, None, All, refl, sym, ap, subst, ◌∙◌, arith}
use Rattle.std.specs.Prelude.{slice_get}
use Rattle.std.proofs.lemmas.Option.{slice_get-get_or, slice_get_within, get_or_from_slice_get}
use Rattle.std.proofs.lemmas.Nat.Bits.{bit_at_ones}
use Rattle.stop_order.specs.Orders.{AreSmall, IsBest, IsOrder, cost_between, sum_of_both, way_cost, order_cost}
use Rattle.stop_order.specs.Sums.{AreLegs, IsLeast, IsWay, leg, or_far, way_sum}
use Rattle.stop_order.specs.declared.costs.Costs.{Costs}
use Rattle.stop_order.specs.declared.legs.Legs.{Legs}
use Rattle.stop_order.proofs.Bits.{power_some, bit_below, count_ones}
use Rattle.stop_order.proofs.Ways.{way_has, way_once, way_length, way_from}

all_below : (n : ℕ) (xs : List ℕ) → ((i k : ℕ) → slice_get xs i ≡ Some k → k < n) → All (λ k. k < n) xs
all_below n xs below = λ i d within. below i (get_or xs i d) (slice_get-get_or xs i d within)

each_below : (n : ℕ) (xs : List ℕ) → All (λ k. k < n) xs → (i k : ℕ) → slice_get xs i ≡ Some k → k < n
each_below n xs all i k at =
    let here : get_or xs i 0 ≡ k = get_or_from_slice_get xs i k 0 at in
    let low : get_or xs i 0 < n = all i 0 (slice_get_within xs i k at) in
    omega arith

-- a way through the set of all stops is an order of them
pub order_from_way : (n : ℕ) (way : List ℕ) → IsWay (2 ^ n - 1) way → IsOrder n way
order_from_way n way walks =
    let low : 2 ^ n - 1 < 2 ^ n = let some = power_some n in omega arith in
    record {
      all = sym (way_length n way (2 ^ n - 1) low walks) ∙ count_ones n n (omega arith);
      below = all_below n way (λ i k at. bit_below (2 ^ n - 1) n k low (way_has way (2 ^ n - 1) i k walks at));
      once = way_once way (2 ^ n - 1) walks;
    }

-- and the other way round
pub way_from_order : (n : ℕ) (order : List ℕ) → IsOrder n order → IsWay (2 ^ n - 1) order
way_from_order n order is =
    let low : 2 ^ n - 1 < 2 ^ n = let some = power_some n in omega arith in
    way_from n order (2 ^ n - 1) low (count_ones n n (omega arith) ∙ sym is.all)
    (λ i k at. bit_at_ones n k (each_below n order is.below i k at)) is.once

-- ---- costs
-- a sum stands for a cost: it is the cost, or is far where there is none
abbrev StandsFor : Option ℕ → ℕ → Type 0
StandsFor (Some cost) sum = sum ≡ cost
StandsFor None sum = 2 ^ 50 ≤ sum

leg_stands : (cost : Option ℕ) (sum : ℕ) → sum ≡ or_far cost → StandsFor cost sum
leg_stands (Some cost) sum is = is
leg_stands None sum is = omega arith

both_stand : (a b : Option ℕ) (s t : ℕ) → StandsFor a s → StandsFor b t → StandsFor (sum_of_both a b) (s + t)
both_stand (Some a) (Some b) s t is_s is_t = omega arith
both_stand (Some a) None s t is_s is_t = omega arith
both_stand None (Some b) s t is_s is_t = omega arith
both_stand None None s t is_s is_t = omega arith

way_stands : (costs : Costs) (legs : Legs) → AreLegs costs legs → costs.stops ≤ 8 → (way : List ℕ) (place : ℕ) → place < 10
    → All (λ k. k < costs.stops) way → StandsFor (way_cost costs place way) (way_sum legs place way)
way_stands costs legs are few [] place at all =
    let count = are.count in
    let here : leg legs place (legs.stops + 1) ≡ or_far (cost_between costs place (costs.stops + 1)) =
    ap (λ n. leg legs place (n + 1)) count ∙ are.each place (costs.stops + 1) at (omega arith) in
    leg_stands (cost_between costs place (costs.stops + 1)) _ here
way_stands costs legs are few (x ∷ xs) place at all =
    let low : x < costs.stops = all 0 0 (omega arith) in
    both_stand (cost_between costs place (x + 1)) (way_cost costs (x + 1) xs) (leg legs place (x + 1)) (way_sum legs (x + 1) xs)
    (leg_stands (cost_between costs place (x + 1)) _ (are.each place (x + 1) at (omega arith)))
    (way_stands costs legs are few xs (x + 1) (omega arith) (λ i d within. all (suc i) d (omega arith)))

-- a cost of an order is small
abbrev IsUnder : Option ℕ → ℕ → Type 0
IsUnder (Some cost) bound = cost < bound
IsUnder None bound = Unit {0}

both_under : (a b : Option ℕ) (s t : ℕ) → IsUnder a s → IsUnder b t → IsUnder (sum_of_both a b) (s + t)
both_under (Some a) (Some b) s t is_s is_t = omega arith
both_under (Some a) None s t is_s is_t = tt
both_under None (Some b) s t is_s is_t = tt
both_under None None s t is_s is_t = tt

leg_under : (cost : Option ℕ) → ((c : ℕ) → cost ≡ Some c → c < 2 ^ 42) → IsUnder cost (2 ^ 42)
leg_under (Some cost) small = small cost refl
leg_under None small = tt

way_under : (costs : Costs) → AreSmall costs → (way : List ℕ) (place : ℕ) → IsUnder (way_cost costs place way) (2 ^ 42 + length way * 2 ^ 42)
way_under costs small [] place = leg_under (cost_between costs place (costs.stops + 1)) (small.small place (costs.stops + 1))
way_under costs small (x ∷ xs) place =
    let both = both_under (cost_between costs place (x + 1)) (way_cost costs (x + 1) xs) (2 ^ 42) (2 ^ 42 + length xs * 2 ^ 42)
    (leg_under (cost_between costs place (x + 1)) (small.small place (x + 1))) (way_under costs small xs (x + 1)) in
    let same : 2 ^ 42 + (2 ^ 42 + length xs * 2 ^ 42) ≡ 2 ^ 42 + suc (length xs) * 2 ^ 42 = omega arith in
    subst (IsUnder (way_cost costs place (x ∷ xs))) same both

cost_found : (cost : Option ℕ) (sum : ℕ) → StandsFor cost sum → sum < 2 ^ 50 → cost ≡ Some sum
cost_found (Some cost) sum is low = ap Some (sym is)
cost_found None sum is low = absurd (omega arith)

cost_missing : (cost : Option ℕ) (sum bound : ℕ) → StandsFor cost sum → 2 ^ 50 ≤ sum → IsUnder cost bound → bound ≤ 2 ^ 50 → cost ≡ None
cost_missing (Some cost) sum bound is high under low = absurd (omega arith)
cost_missing None sum bound is high under low = refl

-- a least sum below far is the cost of a best order
pub best_from_least : (costs : Costs) (legs : Legs) (order : List ℕ) (all sum : ℕ) → AreLegs costs legs → costs.stops ≤ 8 → all ≡ 2 ^ costs.stops - 1
    → IsWay all order → way_sum legs 0 order ≡ sum → IsLeast legs all 0 sum → sum < 2 ^ 50 → IsBest costs order sum
best_from_least costs legs order all sum are few is_all walks costs_it least near =
    let visits : IsOrder costs.stops order = order_from_way costs.stops order (subst (λ (set : ℕ). IsWay set order) is_all walks) in
    let stands : StandsFor (order_cost costs order) sum =
    subst (StandsFor (order_cost costs order)) costs_it (way_stands costs legs are few order 0 (omega arith) visits.below) in
    record {
      visits = visits;
      costs_it = cost_found (order_cost costs order) sum stands near;
      least = λ other less is_order costs_less.
          let walks_other : IsWay all other = rw is_all (way_from_order costs.stops other is_order) in
          let low : sum ≤ way_sum legs 0 other = least.below other walks_other in
          let same : way_sum legs 0 other ≡ less =
          subst (λ (cost : Option ℕ). StandsFor cost (way_sum legs 0 other)) costs_less (way_stands costs legs are few other 0 (omega arith) is_order.below) in
          omega arith;
    }

-- and where the least sum is far, no order has a cost
pub none_from_least : (costs : Costs) (legs : Legs) (all sum : ℕ) → AreLegs costs legs → AreSmall costs → costs.stops ≤ 8 → all ≡ 2 ^ costs.stops - 1
    → IsLeast legs all 0 sum → 2 ^ 50 ≤ sum → (order : List ℕ) → IsOrder costs.stops order → order_cost costs order ≡ None
none_from_least costs legs all sum are small few is_all least far order is_order =
    let walks : IsWay all order = rw is_all (way_from_order costs.stops order is_order) in
    let low : sum ≤ way_sum legs 0 order = least.below order walks in
    let long : length order ≡ costs.stops = is_order.all in
    cost_missing (order_cost costs order) (way_sum legs 0 order) (2 ^ 42 + length order * 2 ^ 42)
    (way_stands costs legs are few order 0 (omega arith) is_order.below) (omega arith) (way_under costs small order 0) (omega arith)
