-- The counts beside the words of a table, and what follows of them.
use Rattle.std.proofs.Common.{◌≡◌, ℕ, ◌+◌, ◌-◌, ◌*◌, ◌<◌, ◌≤◌, Bool, true, false, ◌&&◌, ◌==◌, nat_le, List, length, get_or, set, refl, sym, ap, ◌∙◌, arith, inl, inr, Option, Some, None, slice_get}
use Rattle.std.specs.Int.{bit_at}
use Rattle.std.specs.List.{filter}
use Rattle.std.proofs.Math.Bool.{and-false, false-and, true-and}
use Rattle.std.proofs.lemmas.Option.{slice_get_past}
use Rattle.std.proofs.lemmas.Bool.{and_parts, both_ways, cases_eq, cases_lt, le-leb, lt-leb}
use Rattle.std.proofs.lemmas.List.{get_or-set_same, get_or-set_other, length-set}
use Rattle.std.proofs.lemmas.Nat.{mul-add-lt, same_from_place}
use Rattle.unit_sight.specs.Tables.{is_new, joins, neighbours, new_neighbours, places, table_of}
use Rattle.unit_sight.specs.Words.{bits_in, count_to, words_in, is_next, AreFronts}
use Rattle.unit_sight.proofs.Counts.{count_few, count_same, count_shift, count_stays, filter_twice, nth_here}
use Rattle.unit_sight.proofs.WordLemmas.{row_past}

-- the count up to a place is that up to its word and that within
pub word_count : (table : List (List Bool)) (i w word k : ℕ) → k ≤ 64 → ((b : ℕ) → b < 64 → joins table i (64 * w + b) ≡ bits_in word b)
    → count_to (joins table i) (64 * w + k) ≡ count_to (joins table i) (64 * w) + count_to (bits_in word) k
word_count table i w word k low same =
    let shift = count_shift (joins table i) (64 * w) k in
    let within = count_same (λ b. joins table i (64 * w + b)) (bits_in word) k (λ b below. same b (omega arith)) in
    omega arith

-- no place behind the last is joined
pub square_past : (table : List (List Bool)) (i j : ℕ) → table ≡ table_of (length table) (joins table) → i < length table → length table ≤ j → joins table i j ≡ false
square_past table i j square row past = ap (λ t. joins t i j) square ∙ row_past (length table) (joins table) i j row past

pub count_all : (table : List (List Bool)) (i n : ℕ) → table ≡ table_of (length table) (joins table) → i < length table → length table ≤ n
    → count_to (joins table i) n ≡ count_to (joins table i) (length table)
count_all table i n square row past = count_stays (joins table i) (length table) n past (λ m above below. square_past table i m square row above)

-- one more count
pub fronts_step : (table : List (List Bool)) (fronts : List ℕ) (m i w front : ℕ) → AreFronts table fronts m → i < length table → w < words_in (length table)
    → m ≡ i * words_in (length table) + w → front ≡ count_to (joins table i) (64 * w) → AreFronts table (set fronts m front) (m + 1)
fronts_step table fronts m i w front are row within here is = record {
  count = length-set fronts m front ∙ are.count;
  counts = λ a v above inside low. elim (cases_eq (a * words_in (length table) + v) m) [
    | inl same ↦
        (let both = same_from_place a v i w (words_in (length table)) inside within (same ∙ here) in
        let count = are.count in
        let place = mul-add-lt i (words_in (length table)) w (length table) row within in
        ap (λ p. get_or (set fronts m front) p 0) same
        ∙ (get_or-set_same fronts m front 0 (omega arith)
        ∙ (is ∙ (ap (λ b. count_to (joins table b) (64 * w)) (sym both.0) ∙ ap (λ b. count_to (joins table a) (64 * b)) (sym both.1)))))
    | inr other ↦ get_or-set_other fronts m (a * words_in (length table) + v) front 0 other ∙ are.counts a v above inside (omega arith)
  ];
}

-- without a word no count is asked
pub fronts_none : (table : List (List Bool)) (fronts : List ℕ) → length fronts ≡ length table * words_in (length table) → AreFronts table fronts 0
fronts_none table fronts count = record { count = count; counts = λ i w row within low. absurd (omega arith) }

-- one more count, and the place behind it
pub fill_step : (table : List (List Bool)) (fronts : List ℕ) (i w words front word ones : ℕ)
    → AreFronts table fronts (i * words_in (length table) + w) → i < length table → w < words → words ≡ words_in (length table)
    → front ≡ count_to (joins table i) (64 * w) → ((b : ℕ) → b < 64 → joins table i (64 * w + b) ≡ bits_in word b) → ones ≡ count_to (bits_in word) 64
    → record {
      fronts : AreFronts table (set fronts (i * words + w) front) (i * words_in (length table) + (w + 1));
      front : front + ones ≡ count_to (joins table i) (64 * (w + 1));
    }
fill_step table fronts i w words front word ones are row within width is same all =
    let inside : w < words_in (length table) = omega arith in
    let place : i * words + w ≡ i * words_in (length table) + w = ap (λ n. i * n + w) width in
    let step = fronts_step table fronts (i * words_in (length table) + w) i w front are row inside refl is in
    let next : i * words_in (length table) + w + 1 ≡ i * words_in (length table) + (w + 1) = omega arith in
    let count = word_count table i w word 64 (omega arith) same in
    let behind : 64 * w + 64 ≡ 64 * (w + 1) = omega arith in
    let counted : count_to (joins table i) (64 * w + 64) ≡ count_to (joins table i) (64 * (w + 1)) = ap (count_to (joins table i)) behind in
    record {
      fronts = rw place (rw (← next) step);
      front = omega arith;
    }

-- a count is at most what stands in front
pub front_few : (table : List (List Bool)) (i w front : ℕ) → front ≡ count_to (joins table i) (64 * w) → front ≤ 64 * w
front_few table i w front is = let few = count_few (joins table i) (64 * w) in omega arith

-- a place that is joined is one of the table
inside : (table : List (List Bool)) (i j : ℕ) → table ≡ table_of (length table) (joins table) → i < length table → joins table i j ≡ true → j < length table
inside table i j square row joined = elim (cases_lt j (length table)) [
  | inl within ↦ within
  | inr past ↦ absurd (both_ways (joins table i j) (square_past table i j square row past) joined)
]

le_of_count : (test : ℕ → Bool) (n : ℕ) → count_to test n ≡ count_to test 0 → length (filter test (places n)) ≤ 0
le_of_count test n count = let none : count_to test n ≡ 0 = count in omega arith

and_less : (a b c : Bool) → (a && c) ≡ false → (a && (b && c)) ≡ false
and_less false b c is = refl
and_less true false c is = refl
and_less true true c is = is

-- a place that passes a test is found by its count
pub found_nth : (table : List (List Bool)) (i w word at k : ℕ) → table ≡ table_of (length table) (joins table) → i < length table
    → ((b : ℕ) → b < 64 → joins table i (64 * w + b) ≡ bits_in word b) → at < 64 → bit_at word at ≡ 1
    → count_to (joins table i) (64 * w) + count_to (bits_in word) at ≡ k → slice_get (neighbours table i) k ≡ Some (64 * w + at)
found_nth table i w word at k square row same within bit count =
    let joined : joins table i (64 * w + at) ≡ true = same at within ∙ ap (λ b. b == 1) bit in
    let counted = word_count table i w word at (omega arith) same in
    nth_here (joins table i) (length table) (64 * w + at) k (inside table i (64 * w + at) square row joined) joined (omega arith)

-- the k-th is in the word that has more than k
pub more_bits : (table : List (List Bool)) (i w word k front : ℕ) → ((b : ℕ) → b < 64 → joins table i (64 * w + b) ≡ bits_in word b)
    → k < count_to (joins table i) (64 * w + 64) → front ≡ count_to (joins table i) (64 * w) → front ≤ k → k - front < count_to (bits_in word) 64
more_bits table i w word k front same more is low = let counted = word_count table i w word 64 (omega arith) same in omega arith

-- what is told of the first that passes
pub found_next : (table : List (List Bool)) (i : ℕ) (known : Option ℕ) (from j : ℕ) → table ≡ table_of (length table) (joins table) → i < length table
    → is_next table i known from j ≡ true → ((m : ℕ) → m < j → is_next table i known from m ≡ false)
    → slice_get (new_neighbours table i known from) 0 ≡ Some j
found_next table i known from j square row is none =
    let joined = (and_parts (joins table i j) (nat_le from j && is_new table known j) is).0 in
    ap (λ xs. slice_get xs 0) (filter_twice (λ m. nat_le from m && is_new table known m) (joins table i) (places (length table)))
    ∙ nth_here (is_next table i known from) (length table) j 0 (inside table i j square row joined) is
    (count_stays (is_next table i known from) 0 j (omega arith) (λ m above below. none m below))

pub none_next : (table : List (List Bool)) (i : ℕ) (known : Option ℕ) (from n : ℕ) → length table ≤ n
    → ((m : ℕ) → m < n → is_next table i known from m ≡ false) → None ≡ slice_get (new_neighbours table i known from) 0
none_next table i known from n past none =
    let count = count_stays (is_next table i known from) 0 (length table) (omega arith) (λ m above below. none m (omega arith)) in
    sym
    (ap (λ xs. slice_get xs 0) (filter_twice (λ m. nat_le from m && is_new table known m) (joins table i) (places (length table)))
    ∙ slice_get_past (filter (is_next table i known from) (places (length table))) 0 (le_of_count (is_next table i known from) (length table) count))

-- a bit of a word of what is new
pub next_bit : (table : List (List Bool)) (i : ℕ) (known : Option ℕ) (from w word b : ℕ)
    → ((k : ℕ) → k < 64 → bits_in word k ≡ (joins table i (64 * w + k) && is_new table known (64 * w + k)))
    → b < 64 → bit_at word b ≡ 1 → from ≤ 64 * w + b → is_next table i known from (64 * w + b) ≡ true
next_bit table i known from w word b same within bit behind =
    ap (λ t. joins table i (64 * w + b) && (t && is_new table known (64 * w + b))) (le-leb from (64 * w + b) behind)
    ∙ (ap (λ t. joins table i (64 * w + b) && t) (true-and (is_new table known (64 * w + b))) ∙ (sym (same b within) ∙ ap (λ n. n == 1) bit))

pub no_next_bit : (table : List (List Bool)) (i : ℕ) (known : Option ℕ) (from w word b : ℕ)
    → ((k : ℕ) → k < 64 → bits_in word k ≡ (joins table i (64 * w + k) && is_new table known (64 * w + k)))
    → b < 64 → bit_at word b ≡ 0 → is_next table i known from (64 * w + b) ≡ false
no_next_bit table i known from w word b same within bit =
    and_less (joins table i (64 * w + b)) (nat_le from (64 * w + b)) (is_new table known (64 * w + b)) (sym (same b within) ∙ ap (λ n. n == 1) bit)

-- no new place up to the first bit of a word
pub none_further : (table : List (List Bool)) (i : ℕ) (known : Option ℕ) (from w low at word : ℕ)
    → ((k : ℕ) → k < 64 → bits_in word k ≡ (joins table i (64 * w + k) && is_new table known (64 * w + k)))
    → ((m : ℕ) → m < 64 * w + low → is_next table i known from m ≡ false)
    → ((k : ℕ) → low ≤ k → k < at → bit_at word k ≡ 0) → at ≤ 64
    → (m : ℕ) → m < 64 * w + at → is_next table i known from m ≡ false
none_further table i known from w low at word same before none range m below = elim (cases_lt m (64 * w + low)) [
  | inl early ↦ before m early
  | inr late ↦
      (let place : m ≡ 64 * w + (m - 64 * w) = omega arith in
      ap (is_next table i known from) place
      ∙ no_next_bit table i known from w word (m - 64 * w) same (omega arith) (none (m - 64 * w) (omega arith) (omega arith)))
]

-- in front of `from` no place is told
pub none_in_front : (table : List (List Bool)) (i : ℕ) (known : Option ℕ) (from m : ℕ) → m < from → is_next table i known from m ≡ false
none_in_front table i known from m low =
    ap (λ t. joins table i m && (t && is_new table known m)) (lt-leb from m low)
    ∙ (ap (λ t. joins table i m && t) (false-and (is_new table known m)) ∙ and-false (joins table i m))
