-- A table in which any two places are joined.
use Rattle.std.proofs.Common.{◌≡◌, ◌≢◌, ◌⊎◌, ◌↔◌, is_some, IsTrue, IfSome, nat_lt, ℕ, zero, suc, ◌+◌, ◌-◌, ◌<◌, ◌≤◌, Bool, true, false, not, ◌&&◌, ◌==◌, nat_le, List, length, refl, sym, ap, ◌∙◌, arith, inl, inr, Option, Some, None, slice_get}
use Rattle.std.specs.List.{filter}
use Rattle.std.proofs.lemmas.Bool.{not-false, not-true, both_ways, cases_eq, eq-eqb, le-leb, ne_eqb}
use Rattle.std.proofs.lemmas.Option.{slice_get_past}
use Rattle.unit_sight.specs.Tables.{is_new, joins, neighbours, new_neighbours, table_of, IsWhole}
use Rattle.unit_sight.specs.Words.{count_to, is_next, table_or, whole_of, AreSights}
use Rattle.unit_sight.proofs.Counts.{count_more, count_same, count_same_next, filter_below, nth_here}
use Rattle.unit_sight.proofs.Fronts.{found_next, none_in_front, none_next}
use Rattle.unit_sight.proofs.TableLemmas.{joins_table, length_table, table_same}

pub size_whole : (n : ℕ) → length (whole_of n) ≡ n
size_whole n = length_table n (λ i j. not (i == j))

pub joins_whole : (n i j : ℕ) → i < n → j < n → joins (whole_of n) i j ≡ not (i == j)
joins_whole n i j row column = joins_table n (λ i j. not (i == j)) i j row column

pub whole_square : (n : ℕ) → whole_of n ≡ table_of (length (whole_of n)) (joins (whole_of n))
whole_square n =
    table_same n (λ i j. not (i == j)) (joins (whole_of n)) (λ i j row column. sym (joins_whole n i j row column))
    ∙ ap (λ m. table_of m (joins (whole_of n))) (sym (size_whole n))

pub whole_is : (n : ℕ) → IsWhole (whole_of n)
whole_is n = record { whole = λ i j row column. let size = size_whole n in joins_whole n i j (omega arith) (omega arith) }

-- a table that is whole is the one of its size
pub whole_from : (table : List (List Bool)) → table ≡ table_of (length table) (joins table) → IsWhole table → whole_of (length table) ≡ table
whole_from table square is =
    table_same (length table) (λ i j. not (i == j)) (joins table) (λ i j row column. sym (is.whole i j row column)) ∙ sym square

-- how many are not i
others_below : (i k : ℕ) → k ≤ i → count_to (λ j. not (i == j)) k ≡ k
others_below i zero low = refl
others_below i (suc k) low =
    let before = others_below i k (omega arith) in
    let here = count_more (λ j. not (i == j)) k (ap not (ne_eqb i k (omega arith))) in
    omega arith

others_above : (i k : ℕ) → i < k → count_to (λ j. not (i == j)) k + 1 ≡ k
others_above i zero low = absurd (omega arith)
others_above i (suc k) low = elim (cases_eq i k) [
  | inl same ↦
      (let before = others_below i k (omega arith) in
      let here = count_same_next (λ j. not (i == j)) k (ap not (eq-eqb i k same)) in
      omega arith)
  | inr other ↦
      (let before = others_above i k (omega arith) in
      let here = count_more (λ j. not (i == j)) k (ap not (ne_eqb i k other)) in
      omega arith)
]

others : (n i k : ℕ) → i < n → k ≤ n → count_to (joins (whole_of n) i) k ≡ count_to (λ j. not (i == j)) k
others n i k row low = count_same (joins (whole_of n) i) (λ j. not (i == j)) k (λ j below. joins_whole n i j row (omega arith))

pub whole_below : (n i k : ℕ) → i < n → k ≤ i → count_to (joins (whole_of n) i) k ≡ k
whole_below n i k row low = others n i k row (omega arith) ∙ others_below i k low

pub whole_above : (n i k : ℕ) → i < n → k ≤ n → i < k → count_to (joins (whole_of n) i) k ≡ k - 1
whole_above n i k row low above = let count = others_above i k above in others n i k row low ∙ (omega arith)

pub whole_at : (n i k j : ℕ) → i < n → j < n → i ≢ j → count_to (joins (whole_of n) i) j ≡ k → slice_get (neighbours (whole_of n) i) k ≡ Some j
whole_at n i k j row column apart count =
    let size = size_whole n in
    nth_here (joins (whole_of n) i) (length (whole_of n)) j k (omega arith) (joins_whole n i j row column ∙ ap not (ne_eqb i j apart)) count

pub whole_past : (n i k : ℕ) → i < n → n - 1 ≤ k → slice_get (neighbours (whole_of n) i) k ≡ None
whole_past n i k row past =
    let size = size_whole n in
    let count : count_to (joins (whole_of n) i) n ≡ n - 1 = whole_above n i n row (omega arith) row in
    let all : count_to (joins (whole_of n) i) (length (whole_of n)) ≡ count_to (joins (whole_of n) i) n = ap (count_to (joins (whole_of n) i)) size in
    slice_get_past (neighbours (whole_of n) i) k (omega arith)

-- the first at `from` or behind that isn't i
itself_not_next : (n i : ℕ) (known : Option ℕ) (from : ℕ) → i < n → is_next (whole_of n) i known from i ≡ false
itself_not_next n i known from row =
    ap (λ t. t && (nat_le from i && is_new (whole_of n) known i)) (joins_whole n i i row row ∙ ap not (eq-eqb i i refl))

pub whole_none : (n i from place m : ℕ) → i < n → place ≤ from ⊎ ((i ≡ from) × (place ≡ from + 1)) → m < place → is_next (whole_of n) i None from m ≡ false
whole_none n i from place m row (inl low) below = none_in_front (whole_of n) i None from m (omega arith)
whole_none n i from place m row (inr here) below = elim (cases_eq m i) [
  | inl same ↦ ap (is_next (whole_of n) i None from) same ∙ itself_not_next n i None from row
  | inr other ↦ none_in_front (whole_of n) i None from m (let first = here.0 in let second = here.1 in omega arith)
]

pub whole_found : (n i from place : ℕ) → i < n → place < n → i ≢ place → from ≤ place → place ≤ from ⊎ ((i ≡ from) × (place ≡ from + 1))
    → slice_get (new_neighbours (whole_of n) i None from) 0 ≡ Some place
whole_found n i from place row column apart behind near =
    let size = size_whole n in
    found_next (whole_of n) i None from place (whole_square n) (omega arith)
    (ap (λ t. t && (nat_le from place && true)) (joins_whole n i place row column ∙ ap not (ne_eqb i place apart))
    ∙ ap (λ t. true && (t && true)) (le-leb from place behind))
    (λ m below. whole_none n i from place m row near below)

pub whole_end : (n i from place : ℕ) → i < n → n ≤ place → place ≤ from ⊎ ((i ≡ from) × (place ≡ from + 1))
    → None ≡ slice_get (new_neighbours (whole_of n) i None from) 0
whole_end n i from place row past near =
    let size = size_whole n in
    none_next (whole_of n) i None from place (omega arith) (λ m below. whole_none n i from place m row near below)

both_not : (b : Bool) → (not b && not (not b)) ≡ false
both_not true = refl
both_not false = refl

and_none : (a b c : Bool) → c ≡ false → (a && (b && c)) ≡ false
and_none true true c is = is
and_none true false c is = refl
and_none false b c is = refl

-- where one is known all are
pub whole_known : (n i a from : ℕ) → i < n → a < n → None ≡ slice_get (new_neighbours (whole_of n) i (Some a) from) 0
whole_known n i a from row known =
    let size = size_whole n in
    none_next (whole_of n) i (Some a) from n (omega arith)
    (λ m below.
    and_none (joins (whole_of n) i m) (nat_le from m) (is_new (whole_of n) (Some a) m)
    (ap (λ t. not (a == m) && not t) (joins_whole n a m known below) ∙ both_not (a == m)))

-- of the table that is seen: its size, and what it is where nothing is kept
pub seen_length : (n : ℕ) (rows : Option (List (List Bool))) (table : List (List Bool)) → AreSights n rows → table_or n rows ≡ table → n ≡ length table
seen_length n None table are seen = sym (size_whole n) ∙ ap length seen
seen_length n (Some kept) table are seen = sym are.size ∙ ap length seen

pub in_sights : (n : ℕ) (rows : Option (List (List Bool))) (table : List (List Bool)) (i : ℕ) → AreSights n rows → table_or n rows ≡ table → i < length table → i < n
in_sights n rows table i are seen low = let same = seen_length n rows table are seen in omega arith

pub seen_whole : (n : ℕ) (rows : Option (List (List Bool))) (table : List (List Bool)) → table_or n rows ≡ table → rows ≡ None → whole_of n ≡ table
seen_whole n rows table seen none = ap (table_or n) (sym none) ∙ seen

pub seen_joins : (n : ℕ) (rows : Option (List (List Bool))) (table : List (List Bool)) (i j : ℕ) → AreSights n rows → table_or n rows ≡ table → rows ≡ None
    → i < length table → j < length table → not (i == j) ≡ joins table i j
seen_joins n rows table i j are seen none row column =
    sym (joins_whole n i j (in_sights n rows table i are seen row) (in_sights n rows table j are seen column))
    ∙ ap (λ t. joins t i j) (seen_whole n rows table seen none)

pub seen_count : (n : ℕ) (rows : Option (List (List Bool))) (table : List (List Bool)) (i count : ℕ) → AreSights n rows → table_or n rows ≡ table → rows ≡ None
    → count ≡ count_to (joins (whole_of n) i) n → count ≡ length (neighbours table i)
seen_count n rows table i count are seen none is =
    is ∙ (ap (count_to (joins (whole_of n) i)) (seen_length n rows table are seen) ∙ ap (λ t. count_to (joins t i) (length table)) (seen_whole n rows table seen none))

rank_of : (table : List (List Bool)) (i j : ℕ) → j < length table → count_to (joins table i) j ≡ length (filter (λ b. nat_lt b j) (neighbours table i))
rank_of table i j column = ap length (sym (filter_below (joins table i) (length table) j (omega arith)))

pub seen_rank : (n : ℕ) (rows : Option (List (List Bool))) (table : List (List Bool)) (i j count : ℕ) → table_or n rows ≡ table → rows ≡ None → j < length table
    → count ≡ count_to (joins (whole_of n) i) j → count ≡ length (filter (λ b. nat_lt b j) (neighbours table i))
seen_rank n rows table i j count seen none column is =
    is ∙ (ap (λ t. count_to (joins t i) j) (seen_whole n rows table seen none) ∙ rank_of table i j column)

pub kept_rank : (n : ℕ) (rows : Option (List (List Bool))) (table kept : List (List Bool)) (i j count : ℕ) → table_or n rows ≡ table → rows ≡ Some kept → j < length table
    → count ≡ count_to (joins kept i) j → count ≡ length (filter (λ b. nat_lt b j) (neighbours table i))
kept_rank n rows table kept i j count seen some column is =
    let kept_is : kept ≡ table = ap (table_or n) (sym some) ∙ seen in
    is ∙ (ap (λ t. count_to (joins t i) j) kept_is ∙ rank_of table i j column)

pub seen_is_whole : (n : ℕ) (rows : Option (List (List Bool))) (table : List (List Bool)) (b : Bool) → AreSights n rows → table_or n rows ≡ table → is_some rows ≡ not b
    → IsTrue b ↔ IsWhole table
seen_is_whole n None table b are seen is = (λ _. rw (← seen) (whole_is n), λ _. not-false b (sym is))
seen_is_whole n (Some kept) table b are seen is =
    (λ holds. absurd (both_ways b (not-true b (sym is)) holds), λ whole. absurd (are.parts (rw seen whole)))

pub whole_sized : (n : ℕ) (table : List (List Bool)) (b : Bool) → n ≡ length table → table ≡ table_of (length table) (joins table) → b ≡ true
    → IsTrue b ↔ IsWhole table → whole_of n ≡ table
whole_sized n table b same square holds iff = ap whole_of same ∙ whole_from table square (iff.0 holds)

pub seen_known : (n : ℕ) (rows : Option (List (List Bool))) (table : List (List Bool)) (i : ℕ) (known : Option ℕ) (from : ℕ) (b : Bool) → AreSights n rows → table_or n rows ≡ table
    → rows ≡ None → i < length table → IfSome known (λ (a : ℕ). a < length table) → b ≡ is_some known → b ≡ true
    → None ≡ slice_get (new_neighbours table i known from) 0
seen_known n rows table i None from b are seen none row range is holds = absurd (both_ways b is holds)
seen_known n rows table i (Some a) from b are seen none row range is holds =
    whole_known n i a from (in_sights n rows table i are seen row) (in_sights n rows table a are seen range)
    ∙ ap (λ t. slice_get (new_neighbours t i (Some a) from) 0) (seen_whole n rows table seen none)
