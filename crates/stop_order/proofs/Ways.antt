-- Ways through the stops of a set, their sums, and the orders of all stops.
use Rattle.std.proofs.Common.{◌≡◌, ◌≢◌, ℕ, zero, suc, ◌+◌, ◌-◌, ◌*◌, ◌^◌, ◌<◌, ◌≤◌, List, [], ◌∷◌, length, Some, refl, sym, ap, ◌∙◌, arith, inl, inr}
use Rattle.std.specs.Prelude.{slice_get}
use Rattle.std.specs.Int.{bit_at}
use Rattle.std.proofs.lemmas.Bool.{cases_eq}
use Rattle.std.proofs.lemmas.Nat.Bits.{bit_at-zero}
use Rattle.stop_order.specs.Sums.{leg, way_sum, sum_in, sum_by, IsWay, AreCapped, IsLeast, IsKnown, IsNext}
use Rattle.stop_order.specs.declared.legs.Legs.{Legs}
use Rattle.stop_order.specs.declared.table.Table.{Table}
use Rattle.stop_order.specs.declared.next.Choice.{Choice}
use Rattle.stop_order.proofs.Bits.{power_some, bit_within, bit_below, less_same, less_other, count, count_less, count_none, count_zero}

-- the stops of a way are in its set
pub way_has : (way : List ℕ) (set i k : ℕ) → IsWay set way → slice_get way i ≡ Some k → bit_at set k ≡ 1
way_has [] set i k is at = absurd (cc)
way_has (x ∷ xs) set zero k is at = let same : x ≡ k = (cc) in ap (bit_at set) (sym same) ∙ is.0
way_has (x ∷ xs) set (suc i) k is at =
    let further : bit_at (set - 2 ^ x) k ≡ 1 = way_has xs (set - 2 ^ x) i k is.1 at in
    elim (cases_eq k x) [
      | inl same ↦ absurd (let gone : bit_at (set - 2 ^ x) k ≡ 0 = ap (bit_at (set - 2 ^ x)) same ∙ less_same set x is.0 in omega arith)
      | inr other ↦ sym (less_other set x k is.0 other) ∙ further
    ]

-- each once
pub way_once : (way : List ℕ) (set : ℕ) → IsWay set way
    → (i j k : ℕ) → slice_get way i ≡ Some k → slice_get way j ≡ Some k → i ≡ j
way_once [] set is i j k at there = absurd (cc)
way_once (x ∷ xs) set is zero zero k at there = refl
way_once (x ∷ xs) set is zero (suc j) k at there =
    let same : x ≡ k = (cc) in
    let has : bit_at (set - 2 ^ x) k ≡ 1 = way_has xs (set - 2 ^ x) j k is.1 there in
    let gone : bit_at (set - 2 ^ x) k ≡ 0 = ap (bit_at (set - 2 ^ x)) (sym same) ∙ less_same set x is.0 in
    absurd (omega arith)
way_once (x ∷ xs) set is (suc i) zero k at there =
    let same : x ≡ k = (cc) in
    let has : bit_at (set - 2 ^ x) k ≡ 1 = way_has xs (set - 2 ^ x) i k is.1 at in
    let gone : bit_at (set - 2 ^ x) k ≡ 0 = ap (bit_at (set - 2 ^ x)) (sym same) ∙ less_same set x is.0 in
    absurd (omega arith)
way_once (x ∷ xs) set is (suc i) (suc j) k at there = ap suc (way_once xs (set - 2 ^ x) is.1 i j k at there)

-- as many as the set has
pub way_length : (w : ℕ) (way : List ℕ) (set : ℕ) → set < 2 ^ w → IsWay set way → count w set ≡ length way
way_length w [] set low is = rw is (count_none w)
way_length w (x ∷ xs) set low is =
    let further : count w (set - 2 ^ x) ≡ length xs = way_length w xs (set - 2 ^ x) (omega arith) is.1 in
    count_less w set x (bit_below set w x low is.0) is.0 ∙ ap suc further

-- a list of different stops of the set, as many as it has, is a way through it
pub way_from : (w : ℕ) (way : List ℕ) (set : ℕ) → set < 2 ^ w → count w set ≡ length way
    → ((i k : ℕ) → slice_get way i ≡ Some k → bit_at set k ≡ 1)
    → ((i j k : ℕ) → slice_get way i ≡ Some k → slice_get way j ≡ Some k → i ≡ j)
    → IsWay set way
way_from w [] set low counted has once = count_zero w set low counted
way_from w (x ∷ xs) set low counted has once =
    let here : bit_at set x ≡ 1 = has 0 x refl in
    let less : count w set ≡ suc (count w (set - 2 ^ x)) = count_less w set x (bit_below set w x low here) here in
    let differs : (i k : ℕ) → slice_get xs i ≡ Some k → k ≢ x =
    λ i k at same. let equal : 0 ≡ suc i = once 0 (suc i) x refl (at ∙ ap Some same) in omega arith in (
      here,
      way_from w xs (set - 2 ^ x) (omega arith) (omega arith)
          (λ i k at. less_other set x k here (differs i k at) ∙ has (suc i) k at)
          (λ i j k at there. let equal : suc i ≡ suc j = once (suc i) (suc j) k at there in omega arith),
    )

-- a way costs at most so much
pub way_bounded : (legs : Legs) → AreCapped legs → (way : List ℕ) (set place : ℕ) → IsWay set way → way_sum legs place way ≤ (set + 1) * 2 ^ 50
way_bounded legs capped [] set place is = let last = capped.capped (10 * place + (legs.stops + 1)) in omega arith
way_bounded legs capped (x ∷ xs) set place is =
    let first = capped.capped (10 * place + (x + 1)) in
    let further = way_bounded legs capped xs (set - 2 ^ x) (x + 1) is.1 in
    let within : 2 ^ x ≤ set = bit_within set x is.0 in
    let some = power_some x in
    omega arith

pub least_bounded : (legs : Legs) (set place sum : ℕ) → AreCapped legs → IsLeast legs set place sum → sum ≤ (set + 1) * 2 ^ 50
least_bounded legs set place sum capped is =
    let (way, walks, costs) = is.reached in
    let bounded = way_bounded legs capped way set place walks in
    omega arith

-- what is known of the set without one of its stops
pub known_without : (legs : Legs) (table : Table) (set k : ℕ) → set < 2 ^ legs.stops → IsKnown legs table set → bit_at set k ≡ 1
    → IsLeast legs (set - 2 ^ k) (k + 1) (sum_in table (set - 2 ^ k) k)
known_without legs table set k low known has =
    let within : 2 ^ k ≤ set = bit_within set k has in
    let some = power_some k in
    known (set - 2 ^ k) k (omega arith) (bit_below set legs.stops k low has) (less_same set k has)

-- what the best next stop tells of the whole way
pub least_by_next : (legs : Legs) (table : Table) (set place : ℕ) (next : Choice) → set < 2 ^ legs.stops → 0 < set → IsKnown legs table set
    → IsNext legs table set place next → IsLeast legs set place next.sum
least_by_next legs table set place next low some known is =
    let (way, walks, costs) = (known_without legs table set next.stop low known is.reached.has).reached in
    let below : (way : List ℕ) → IsWay set way → next.sum ≤ way_sum legs place way = elim [
      | [] ↦ λ walks. absurd (omega arith)
      | (x ∷ xs) ↦ λ walks.
          let least : sum_in table (set - 2 ^ x) x ≤ way_sum legs (x + 1) xs = (known_without legs table set x low known walks.0).below xs walks.1 in
          let better : next.sum ≤ sum_by legs table set place x = is.below x walks.0 in
          omega arith
    ] in
    record {
      reached = (next.stop ∷ way, (is.reached.has, walks), ap (λ sum. leg legs place (next.stop + 1) + sum) costs ∙ sym is.reached.sum);
      below = below;
    }

-- at the end nothing is left but the last leg
pub least_at_end : (legs : Legs) (place : ℕ) → IsLeast legs 0 place (leg legs place (legs.stops + 1))
least_at_end legs place =
    let below : (way : List ℕ) → IsWay 0 way → leg legs place (legs.stops + 1) ≤ way_sum legs place way = elim [
      | [] ↦ λ walks. omega arith
      | (x ∷ xs) ↦ λ walks. absurd (let none : bit_at 0 x ≡ 0 = bit_at-zero x in let has : bit_at 0 x ≡ 1 = walks.0 in omega arith)
    ] in
    record { reached = ([], refl, refl); below = below }
