-- The turns in which an order is read from the table: the stops so far lead on by a least way through those left.
use Rattle.std.proofs.Common.{◌≡◌, ℕ, zero, suc, ◌+◌, ◌-◌, ◌^◌, ◌<◌, ◌≤◌, List, [], ◌∷◌, ◌++◌, length, take, drop, set, replicate, refl, sym, ap, subst, ◌∙◌, append_assoc, arith}
use Rattle.std.proofs.lemmas.List.{length-set, take_more_set, drop-set-lt, drop-drop, drop-replicate, append-nil}
use Rattle.stop_order.specs.Sums.{IsKnown, IsLeast, IsNext, IsWay, leg, sum_in, way_sum}
use Rattle.stop_order.specs.declared.legs.Legs.{Legs}
use Rattle.stop_order.specs.declared.table.Table.{Table}
use Rattle.stop_order.specs.declared.next.Choice.{Choice}
use Rattle.stop_order.proofs.Bits.{power_some, bit_within, bit_below, count, count_less, count_none, count_ones, count_zero}
use Rattle.stop_order.proofs.Ways.{known_without, least_by_next, least_at_end}

-- two least sums are one
pub least_same : (legs : Legs) (set place a b : ℕ) → IsLeast legs set place a → IsLeast legs set place b → a ≡ b
least_same legs set place a b is_a is_b =
    let (way_a, walks_a, sum_a) = is_a.reached in
    let (way_b, walks_b, sum_b) = is_b.reached in
    let low_a : a ≤ way_sum legs place way_b = is_a.below way_b walks_b in
    let low_b : b ≤ way_sum legs place way_a = is_b.below way_a walks_a in
    omega arith

-- the stops so far lead on by a way through those left: any such way makes one through all, and a least one a least one
pub record LeadsOn (legs : Legs) (places : List ℕ) (turn left place cost : ℕ) : Type 0 where
  pub long : length places ≡ 8
  pub low : left < 2 ^ legs.stops
  pub counted : count legs.stops left + turn ≡ legs.stops
  pub at_place : place ≤ legs.stops
  pub zeros : drop turn places ≡ replicate (8 - turn) 0
  pub ways : (rest : List ℕ) → IsWay left rest → IsWay (2 ^ legs.stops - 1) (take turn places ++ rest)
  pub sums : (rest : List ℕ) → IsLeast legs left place (way_sum legs place rest) → way_sum legs 0 (take turn places ++ rest) ≡ cost

-- a stop is left before the last turn
pub some_left : (legs : Legs) (places : List ℕ) (turn left place cost : ℕ) → LeadsOn legs places turn left place cost → turn < legs.stops → 0 < left
some_left legs places turn zero place cost on before = absurd (let none = count_none legs.stops in let counted = on.counted in omega arith)
some_left legs places turn (suc left) place cost on before = omega arith

pub leads_off : (legs : Legs) (left cost : ℕ) → legs.stops ≤ 8 → left ≡ 2 ^ legs.stops - 1 → IsLeast legs left 0 cost
    → LeadsOn legs (replicate 8 0) 0 left 0 cost
leads_off legs left cost few all least = record {
  long = refl;
  low = let some = power_some legs.stops in omega arith;
  counted = let counted : count legs.stops left ≡ legs.stops = ap (count legs.stops) all ∙ count_ones legs.stops legs.stops (omega arith) in omega arith;
  at_place = omega arith;
  zeros = refl;
  ways = λ rest walks. subst (λ (set : ℕ). IsWay set rest) all walks;
  sums = λ rest is. least_same legs left 0 (way_sum legs 0 rest) cost is least;
}

-- one turn on, what is behind is 0 still
zeros_on : (places : List ℕ) (turn stop : ℕ) → drop turn places ≡ replicate (8 - turn) 0 → drop (turn + 1) (set places turn stop) ≡ replicate (8 - (turn + 1)) 0
zeros_on places turn stop zeros =
    let untouched : drop (turn + 1) (set places turn stop) ≡ drop (turn + 1) places = drop-set-lt (turn + 1) places turn stop (omega arith) in
    let behind : drop 1 (drop turn places) ≡ drop (turn + 1) places = drop-drop 1 turn places in
    let fewer : drop 1 (replicate (8 - turn) 0) ≡ replicate (8 - turn - 1) 0 = drop-replicate {X = ℕ} 1 (8 - turn) 0 in
    let count : 8 - turn - 1 ≡ 8 - (turn + 1) = omega arith in
    untouched ∙ (sym behind ∙ (ap (drop 1) zeros ∙ (fewer ∙ ap (λ n. replicate n 0) count)))

pub leads_on : (legs : Legs) (table : Table) (places : List ℕ) (turn left place cost : ℕ) (next : Choice)
    → legs.stops ≤ 8 → turn < legs.stops → IsKnown legs table (2 ^ legs.stops)
    → LeadsOn legs places turn left place cost → IsNext legs table left place next
    → LeadsOn legs (set places turn next.stop) (turn + 1) (left - 2 ^ next.stop) (next.stop + 1) cost
leads_on legs table places turn left place cost next few before known on is =
    let long = on.long in
    let low = on.low in
    let counted = on.counted in
    let has = is.reached.has in
    let here : next.stop < legs.stops = bit_below left legs.stops next.stop low has in
    let less = count_less legs.stops left next.stop here has in
    let known_here : IsKnown legs table left = λ s j under below out. known s j (omega arith) below out in
    let more : take (turn + 1) (set places turn next.stop) ≡ take turn places ++ (next.stop ∷ []) = take_more_set places turn next.stop (omega arith) in
    let joined : (rest : List ℕ) → take turn places ++ (next.stop ∷ rest) ≡ take (turn + 1) (set places turn next.stop) ++ rest =
    λ rest. rw (more, append_assoc) refl in
    record {
      long = length-set places turn next.stop ∙ long;
      low = omega arith;
      counted = omega arith;
      at_place = omega arith;
      zeros = zeros_on places turn next.stop on.zeros;
      ways = λ rest walks. subst (IsWay (2 ^ legs.stops - 1)) (joined rest) (on.ways (next.stop ∷ rest) (has, walks));
      sums = λ rest least.
          let same : way_sum legs (next.stop + 1) rest ≡ sum_in table (left - 2 ^ next.stop) next.stop =
          least_same legs (left - 2 ^ next.stop) (next.stop + 1) _ _ least (known_without legs table left next.stop low known_here has) in
          let whole : next.sum ≡ way_sum legs place (next.stop ∷ rest) = is.reached.sum ∙ ap (λ sum. leg legs place (next.stop + 1) + sum) (sym same) in
          let best = least_by_next legs table left place next low (let within = bit_within left next.stop has in let some = power_some next.stop in omega arith) known_here is in
          let total : way_sum legs 0 (take turn places ++ (next.stop ∷ rest)) ≡ cost =
          on.sums (next.stop ∷ rest) (subst (λ (sum : ℕ). IsLeast legs left place sum) whole best) in
          subst (λ (way : List ℕ). way_sum legs 0 way ≡ cost) (joined rest) total;
    }

-- after the last turn nothing is left
pub leads_to_end : (legs : Legs) (places : List ℕ) (turn left place cost : ℕ) → turn ≡ legs.stops → LeadsOn legs places turn left place cost
    → IsWay (2 ^ legs.stops - 1) (take legs.stops places) × (way_sum legs 0 (take legs.stops places) ≡ cost)
leads_to_end legs places turn left place cost last on =
    let counted = on.counted in
    let none : left ≡ 0 = count_zero legs.stops left on.low (omega arith) in
    let least : IsLeast legs left place (leg legs place (legs.stops + 1)) = rw none (least_at_end legs place) in
    let whole : take turn places ++ [] ≡ take legs.stops places = append-nil (take turn places) ∙ ap (λ n. take n places) last in
    (subst (IsWay (2 ^ legs.stops - 1)) whole (on.ways [] none), ap (way_sum legs 0) (sym whole) ∙ on.sums [] least)
