-- The neighbours of a place by their numbers, and the first of them that is new.
use Rattle.std.proofs.Common.{◌≡◌, ℕ, zero, suc, ◌+◌, ◌-◌, ◌<◌, ◌≤◌, Bool, true, false, cond, not, ◌&&◌, ◌==◌, nat_lt, nat_le, List, [], ◌∷◌, ◌++◌, Option, Some, None, length, refl, sym, ap, ◌∙◌, subst, arith, inl, inr, true≢false}
use Rattle.std.specs.Prelude.{slice_get}
use Rattle.std.specs.List.{filter}
use Rattle.std.proofs.lemmas.Bool.{cases_lt, le-leb}
use Rattle.std.proofs.lemmas.List.Elements.{filter-append}
use Rattle.std.proofs.lemmas.Option.{same_Some}
use Rattle.unit_sight.specs.Tables.{is_new, joins, neighbours, new_neighbours, places, IsWhole}
use Rattle.unit_sight.specs.Words.{count_to, is_next}
use Rattle.unit_sight.proofs.Counts.{count_more, count_rises, filter_below, filter_twice, nth_here}
use Rattle.link_graph.proofs.LeadingLists.{at_left, at_right}

-- ---- which is the k-th that passes

-- j passes, and k that pass stand in front of it
pub record IsNth (test : ℕ → Bool) (n k j : ℕ) : Type 0 where
  pub below : j < n
  pub passes : test j ≡ true
  pub count : count_to test j ≡ k

last_item : (test : ℕ → Bool) (n k m j : ℕ) (b : Bool) → test n ≡ b → k ≡ count_to test n + m → slice_get (cond b (n ∷ []) []) m ≡ Some j → IsNth test (suc n) k j
last_item test n k zero j true is e at =
    let same : n ≡ j = same_Some n j at in
    subst (IsNth test (suc n) k) same (record { below = omega arith; passes = is; count = omega (arith, e) })
last_item test n k (suc m) j true is e at = absurd (let no : None ≡ Some j = at in cc)
last_item test n k m j false is e at = absurd (let no : None ≡ Some j = at in cc)

one_further : (test : ℕ → Bool) (n k j : ℕ) → IsNth test n k j → IsNth test (suc n) k j
one_further test n k j h = let below = h.below in record { below = omega (arith, below); passes = h.passes; count = h.count }

pub nth_there : (test : ℕ → Bool) (n k j : ℕ) → slice_get (filter test (places n)) k ≡ Some j → IsNth test n k j
nth_there test zero k j at = absurd (let no : None ≡ Some j = at in cc)
nth_there test (suc n) k j at =
    let fewer = filter test (places n) in
    let last = cond (test n) (n ∷ []) [] in
    let listed : slice_get (fewer ++ last) k ≡ Some j = ap (λ (xs : List ℕ). slice_get xs k) (sym (filter-append test (places n) (n ∷ []))) ∙ at in
    elim (cases_lt k (length fewer)) [
      | inl front ↦ one_further test n k j (nth_there test n k j (sym (at_left fewer last k front) ∙ listed))
      | inr behind ↦
          let e : k ≡ length fewer + (k - length fewer) = omega (arith, behind) in
          last_item test n k (k - length fewer) j (test n) refl e (sym (at_right fewer last k (k - length fewer) e) ∙ listed)
    ]

-- what passes in front of one in front of which fewer pass
pub nth_front : (test : ℕ → Bool) (n k j end : ℕ) → IsNth test n k j → k < count_to test end → j < end
nth_front test n k j end h fewer = elim (cases_lt j end) [
  | inl front ↦ front
  | inr behind ↦
      let rise = count_rises test end j behind in
      let count = h.count in
      absurd (omega (arith, rise, count, fewer))
]

pub nth_behind : (test : ℕ → Bool) (n k j first : ℕ) → IsNth test n k j → count_to test first ≤ k → first ≤ j
nth_behind test n k j first h more = elim (cases_lt j first) [
  | inl front ↦
      let rise = count_rises test (suc j) first (omega (arith, front)) in
      let next = count_more test j h.passes in
      let count = h.count in
      absurd (omega (arith, rise, next, count, more))
  | inr behind ↦ behind
]

not_true : (b : Bool) → (b ≡ true → ⊥) → b ≡ false
not_true true refused = absurd (refused refl)
not_true false refused = refl

-- where none in front passes
none_front : (test : ℕ → Bool) (end m : ℕ) → count_to test end ≡ 0 → m < end → test m ≡ false
none_front test end m none front = not_true (test m) (λ passes.
    let rise = count_rises test (suc m) end (omega (arith, front)) in
    let next = count_more test m passes in
    omega (arith, rise, next, none))

-- ---- the first that is new

-- the first that was found, or the end of the table
abbrev pub end_of : ℕ → Option ℕ → ℕ
end_of n None = n
end_of n (Some j) = j

both_hold : (a b c : Bool) → a && (b && c) ≡ true → (a ≡ true) × ((b ≡ true) × (c ≡ true))
both_hold true true true is = (refl, (refl, refl))
both_hold true true false is = absurd (true≢false (sym is))
both_hold true false c is = absurd (true≢false (sym is))
both_hold false b c is = absurd (true≢false (sym is))

-- a neighbour that is new, with its number
pub record IsFound (table : List (List Bool)) (i from j : ℕ) : Type 0 where
  pub below : j < length table
  pub joined : joins table i j ≡ true
  pub behind : nat_le from j ≡ true

next_at : (table : List (List Bool)) (i : ℕ) (known : Option ℕ) (from k : ℕ) → slice_get (new_neighbours table i known from) k ≡ slice_get (filter (is_next table i known from) (places (length table))) k
next_at table i known from k = ap (λ (xs : List ℕ). slice_get xs k) (filter_twice (λ j. nat_le from j && is_new table known j) (joins table i) (places (length table)))

next_nth : (table : List (List Bool)) (i : ℕ) (known : Option ℕ) (from j : ℕ) → Some j ≡ slice_get (new_neighbours table i known from) 0 → IsNth (is_next table i known from) (length table) 0 j
next_nth table i known from j found = nth_there (is_next table i known from) (length table) 0 j (sym (found ∙ next_at table i known from 0))

pub found_is : (table : List (List Bool)) (i : ℕ) (known : Option ℕ) (from j : ℕ) → Some j ≡ slice_get (new_neighbours table i known from) 0 → IsFound table i from j
found_is table i known from j found =
    let nth = next_nth table i known from j found in
    let holds = both_hold (joins table i j) (nat_le from j) (is_new table known j) nth.passes in
    record { below = nth.below; joined = holds.0; behind = holds.1.0 }

empty_long : (xs : List ℕ) → None ≡ slice_get xs 0 → length xs ≡ 0
empty_long [] none = refl
empty_long (x ∷ xs) none = absurd (let no : None ≡ Some x = none in cc)

pub old_front : (table : List (List Bool)) (i : ℕ) (known : Option ℕ) (from : ℕ) (found : Option ℕ) (m : ℕ) → found ≡ slice_get (new_neighbours table i known from) 0 → m < end_of (length table) found → is_next table i known from m ≡ false
old_front table i known from None m is front =
    none_front (is_next table i known from) (length table) m (empty_long (filter (is_next table i known from) (places (length table))) (is ∙ next_at table i known from 0)) front
old_front table i known from (Some j) m is front = none_front (is_next table i known from) j m (next_nth table i known from j is).count front

-- a neighbour behind the place from which one looks is old where it isn't next
next_old : (a b c : Bool) → a ≡ true → b ≡ true → a && (b && c) ≡ false → c ≡ false
next_old true true c one two is = is
next_old true false c one two is = absurd (true≢false (sym two))
next_old false b c one two is = absurd (true≢false (sym one))

pub old_neighbour : (table : List (List Bool)) (i : ℕ) (known : Option ℕ) (from : ℕ) (found : Option ℕ) (k j : ℕ) → found ≡ slice_get (new_neighbours table i known from) 0 → slice_get (neighbours table i) k ≡ Some j
    → count_to (joins table i) from ≤ k → k < count_to (joins table i) (end_of (length table) found) → is_new table known j ≡ false
old_neighbour table i known from found k j is at behind front =
    let nth = nth_there (joins table i) (length table) k j at in
    next_old (joins table i j) (nat_le from j) (is_new table known j) nth.passes
    (le-leb from j (nth_behind (joins table i) (length table) k j from nth behind))
    (old_front table i known from found j is (nth_front (joins table i) (length table) k j (end_of (length table) found) nth front))

-- ---- ranks

pub rank_is : (table : List (List Bool)) (i j : ℕ) → j < length table → length (filter (λ b. nat_lt b j) (neighbours table i)) ≡ count_to (joins table i) j
rank_is table i j below = ap length (filter_below (joins table i) (length table) j (omega (arith, below)))

pub number_is : (table : List (List Bool)) (i k j : ℕ) → slice_get (neighbours table i) k ≡ Some j → count_to (joins table i) j ≡ k
number_is table i k j at = (nth_there (joins table i) (length table) k j at).count

pub ranked_at : (table : List (List Bool)) (i j : ℕ) → j < length table → joins table i j ≡ true → slice_get (neighbours table i) (count_to (joins table i) j) ≡ Some j
ranked_at table i j below joined = nth_here (joins table i) (length table) j (count_to (joins table i) j) below joined refl

-- ---- whole tables

both_ways : (b : Bool) → not b && not (not b) ≡ false
both_ways true = refl
both_ways false = refl

-- no place is new where one is known
pub whole_old : (table : List (List Bool)) (a j : ℕ) → IsWhole table → a < length table → j < length table → is_new table (Some a) j ≡ false
whole_old table a j whole here there = ap (λ (joined : Bool). not (a == j) && not joined) (whole.whole a j here there) ∙ both_ways (a == j)
