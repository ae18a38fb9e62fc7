-- Sets of places.
use Rattle.std.proofs.Common.{◌≡◌, ◌≢◌, ℕ, zero, suc, ◌+◌, ◌*◌, ◌/◌, ◌%◌, ◌<◌, ◌≤◌, Bool, true, false, cond, not, ◌&&◌, ◌||◌, ◌==◌, List, map, length, get_or, set, replicate, refl, sym, ap, ◌∙◌, arith, inl, inr, bit_and, Option, Some, None, min}
use Rattle.std.specs.Int.{bit_at}
use Rattle.std.specs.List.{filter}
use Rattle.std.proofs.Math.Bool.{or-false, or-true}
use Rattle.std.proofs.lemmas.Bool.{cases_eq, cases_lt, eq-eqb, ne_eqb}
use Rattle.std.proofs.lemmas.Grind.{get_or_default_zero}
use Rattle.std.proofs.lemmas.List.{get_or-set_same, get_or-set_other, get_or_past, get_or-replicate, length-map, length-replicate, length-set}
use Rattle.std.proofs.lemmas.Nat.Bits.{bit_at-lt, bit_at-zero, bit_at_and}
use Rattle.unit_sight.specs.Tables.{joins, neighbours, places, table_of}
use Rattle.unit_sight.specs.Words.{bits_in, count_to, is_both, mask_bit, mask_of, table_or, whole_of, words_in, AreMaskBits, AreSights}
use Rattle.unit_sight.proofs.Counts.{count_few, count_next, count_same, count_shift, count_stays, filter_twice}
use Rattle.unit_sight.proofs.Fronts.{square_past}
use Rattle.unit_sight.proofs.TableLemmas.{get_or_row, length_places, row_same}
use Rattle.unit_sight.proofs.Wholes.{joins_whole, seen_length, seen_whole}

mask_length : (n : ℕ) (test : ℕ → Bool) → length (map test (places n)) ≡ n
mask_length n test = length-map (places n) test ∙ length_places n

pub seen_mask : (size : ℕ) (words : List ℕ) (mask : List Bool) → mask_of size words ≡ mask → size ≡ length mask
seen_mask size words mask seen = sym (mask_length size (λ j. mask_bit words j == 1)) ∙ ap length seen

-- no place of a set
pub zero_mask_bit : (n j : ℕ) → mask_bit (replicate n 0) j ≡ 0
zero_mask_bit n j = elim (cases_lt (j / 64) n) [
  | inl inside ↦ ap (λ word. bit_at word (j % 64)) (get_or-replicate n (j / 64) 0 0 inside) ∙ bit_at-zero (j % 64)
  | inr outside ↦
      (let size_is : length (replicate n zero) ≡ n = length-replicate n zero in
      ap (λ word. bit_at word (j % 64)) (get_or_past (replicate n 0) (j / 64) 0 (omega arith)) ∙ bit_at-zero (j % 64))
]

pub zero_mask : (size n : ℕ) → mask_of size (replicate n 0) ≡ map (λ j. false) (places size)
zero_mask size n = row_same (λ j. mask_bit (replicate n 0) j == 1) (λ j. false) size (λ j low. ap (λ bit. bit == 1) (zero_mask_bit n j))

pub zero_mask_bits : (size n : ℕ) → size ≤ 4096 → n ≡ words_in size → AreMaskBits size (replicate n 0)
zero_mask_bits size n range count = record { range = range; count = length-replicate n 0 ∙ count; nothing_behind = λ j behind low. zero_mask_bit n j }

-- a word of a set that was read
pub seen_mask_word : (size : ℕ) (words : List ℕ) (mask : List Bool) (w x : ℕ) → mask_of size words ≡ mask → AreMaskBits size words → w < words_in (length mask)
    → x ≡ get_or words w x → (k : ℕ) → k < 64 → get_or mask (64 * w + k) false ≡ bits_in x k
seen_mask_word size words mask w x seen are within read k low =
    let same = seen_mask size words mask seen in
    let count = are.count in
    let word : x ≡ get_or words w 0 = read ∙ get_or_default_zero words w x (omega arith) in
    let word_same : (64 * w + k) / 64 ≡ w = omega arith in
    let bit_same : (64 * w + k) % 64 ≡ k = omega arith in
    let bit_is : mask_bit words (64 * w + k) ≡ bit_at x k =
    ap (λ b. bit_at (get_or words ((64 * w + k) / 64) 0) b) bit_same ∙ (ap (λ n. bit_at (get_or words n 0) k) word_same ∙ ap (λ n. bit_at n k) (sym word)) in
    ap (λ t. get_or t (64 * w + k) false) (sym seen)
    ∙ elim (cases_lt (64 * w + k) size) [
      | inl inside ↦ get_or_row (λ j. mask_bit words j == 1) size (64 * w + k) false inside ∙ ap (λ bit. bit == 1) bit_is
      | inr past ↦
          get_or_past (map (λ j. mask_bit words j == 1) (places size)) (64 * w + k) false (let length_is = mask_length size (λ j. mask_bit words j == 1) in omega arith)
          ∙ ap (λ bit. bit == 1) (sym (are.nothing_behind (64 * w + k) past (omega arith)) ∙ bit_is)
    ]

pub seen_mask_bit : (size : ℕ) (words : List ℕ) (mask : List Bool) (j x : ℕ) (bit : Bool) → mask_of size words ≡ mask → AreMaskBits size words → j < length mask
    → x ≡ get_or words (j / 64) x → bit ≡ (bit_at x (j % 64) == 1) → bit ≡ get_or mask j false
seen_mask_bit size words mask j x bit seen are low read is =
    let same = seen_mask size words mask seen in
    let place : 64 * (j / 64) + j % 64 ≡ j = omega arith in
    is ∙ (sym (seen_mask_word size words mask (j / 64) x seen are (omega arith) read (j % 64) (omega arith)) ∙ ap (λ k. get_or mask k false) place)

-- a place put into a set
mask_put_bit : (words : List ℕ) (j x put m : ℕ) → j / 64 < length words → x ≡ get_or words (j / 64) x → bit_at put (j % 64) ≡ 1
    → ((i : ℕ) → i ≢ j % 64 → bit_at put i ≡ bit_at x i) → m ≢ j → mask_bit (set words (j / 64) put) m ≡ mask_bit words m
mask_put_bit words j x put m inside read has others apart = elim (cases_eq (m / 64) (j / 64)) [
  | inl here ↦
      (let word : x ≡ get_or words (j / 64) 0 = read ∙ get_or_default_zero words (j / 64) x inside in
      ap (λ k. bit_at (get_or (set words (j / 64) put) k 0) (m % 64)) here
      ∙ (ap (λ n. bit_at n (m % 64)) (get_or-set_same words (j / 64) put 0 inside)
      ∙ (others (m % 64) (λ same. apart (omega arith))
      ∙ (ap (λ n. bit_at n (m % 64)) word ∙ ap (λ k. bit_at (get_or words k 0) (m % 64)) (sym here)))))
  | inr there ↦ ap (λ n. bit_at n (m % 64)) (get_or-set_other words (j / 64) (m / 64) put 0 there)
]

mask_put_same : (words : List ℕ) (j put m : ℕ) → j / 64 < length words → bit_at put (j % 64) ≡ 1 → m ≡ j → mask_bit (set words (j / 64) put) m ≡ 1
mask_put_same words j put m inside has same =
    ap (mask_bit (set words (j / 64) put)) same ∙ (ap (λ n. bit_at n (j % 64)) (get_or-set_same words (j / 64) put 0 inside) ∙ has)

pub seen_mask_put : (size : ℕ) (words : List ℕ) (mask : List Bool) (j x put : ℕ) → mask_of size words ≡ mask → AreMaskBits size words → j < length mask
    → x ≡ get_or words (j / 64) x → bit_at put (j % 64) ≡ 1 → ((i : ℕ) → i ≢ j % 64 → bit_at put i ≡ bit_at x i)
    → mask_of size (set words (j / 64) put) ≡ map (λ m. get_or mask m false || (m == j)) (places (length mask))
seen_mask_put size words mask j x put seen are low read has others =
    let same = seen_mask size words mask seen in
    let count = are.count in
    row_same (λ m. mask_bit (set words (j / 64) put) m == 1) (λ m. get_or mask m false || (m == j)) size
    (λ m below.
    let old : get_or mask m false ≡ (mask_bit words m == 1) = ap (λ t. get_or t m false) (sym seen) ∙ get_or_row (λ k. mask_bit words k == 1) size m false below in
    elim (cases_eq m j) [
      | inl here ↦
          ap (λ bit. bit == 1) (mask_put_same words j put m (omega arith) has here)
          ∙ (sym (or-true (get_or mask m false)) ∙ ap (λ t. get_or mask m false || t) (sym (eq-eqb m j here)))
      | inr apart ↦
          ap (λ bit. bit == 1) (mask_put_bit words j x put m (omega arith) read has others apart)
          ∙ (sym old ∙ (sym (or-false (get_or mask m false)) ∙ ap (λ t. get_or mask m false || t) (sym (ne_eqb m j apart))))
    ])
    ∙ ap (λ n. map (λ m. get_or mask m false || (m == j)) (places n)) same

pub seen_mask_put_bits : (size : ℕ) (words : List ℕ) (mask : List Bool) (j x put : ℕ) → mask_of size words ≡ mask → AreMaskBits size words → j < length mask
    → x ≡ get_or words (j / 64) x → bit_at put (j % 64) ≡ 1 → ((i : ℕ) → i ≢ j % 64 → bit_at put i ≡ bit_at x i)
    → AreMaskBits size (set words (j / 64) put)
seen_mask_put_bits size words mask j x put seen are low read has others =
    let same = seen_mask size words mask seen in
    let count = are.count in
    record {
      range = are.range;
      count = length-set words (j / 64) put ∙ are.count;
      nothing_behind = λ m behind above. mask_put_bit words j x put m (omega arith) read has others (λ here. let place = here in omega arith) ∙ are.nothing_behind m behind above;
    }

-- bits that two words share
min_is : (a b : ℕ) → a < 2 → b < 2 → (min a b == 1) ≡ ((a == 1) && (b == 1))
min_is zero zero low few = refl
min_is zero (suc zero) low few = refl
min_is (suc zero) zero low few = refl
min_is (suc zero) (suc zero) low few = refl
min_is (suc (suc n)) b low few = absurd (omega arith)
min_is zero (suc (suc n)) low few = absurd (omega arith)
min_is (suc zero) (suc (suc n)) low few = absurd (omega arith)

pub shared_bits : (n m k : ℕ) → bits_in (bit_and n m) k ≡ (bits_in n k && bits_in m k)
shared_bits n m k = ap (λ bit. bit == 1) (bit_at_and n m k) ∙ min_is (bit_at n k) (bit_at m k) (bit_at-lt n k) (bit_at-lt m k)

-- one word further
pub count_word : (test : ℕ → Bool) (w word count ones : ℕ) → count ≡ count_to test (64 * w) → ones ≡ count_to (bits_in word) 64
    → ((k : ℕ) → k < 64 → test (64 * w + k) ≡ bits_in word k) → count + ones ≡ count_to test (64 * (w + 1))
count_word test w word count ones is all same =
    let shift = count_shift test (64 * w) 64 in
    let within = count_same (λ k. test (64 * w + k)) (bits_in word) 64 same in
    let next : 64 * w + 64 ≡ 64 * (w + 1) = omega arith in
    let counted : count_to test (64 * w + 64) ≡ count_to test (64 * (w + 1)) = ap (count_to test) next in
    omega arith

pub both_word : (table : List (List Bool)) (i : ℕ) (mask : List Bool) (w row word both : ℕ) → ((k : ℕ) → k < 64 → joins table i (64 * w + k) ≡ bits_in row k)
    → ((k : ℕ) → k < 64 → get_or mask (64 * w + k) false ≡ bits_in word k) → ((k : ℕ) → bits_in both k ≡ (bits_in row k && bits_in word k))
    → (k : ℕ) → k < 64 → is_both table i mask (64 * w + k) ≡ bits_in both k
both_word table i mask w row word both rows words is k low =
    ap (λ t. t && get_or mask (64 * w + k) false) (rows k low) ∙ (ap (λ t. bits_in row k && t) (words k low) ∙ sym (is k))

pub both_end : (table : List (List Bool)) (i : ℕ) (mask : List Bool) (n : ℕ) → table ≡ table_of (length table) (joins table) → i < length table → length table ≤ n
    → count_to (is_both table i mask) n ≡ count_to (is_both table i mask) (length table)
both_end table i mask n square row past =
    count_stays (is_both table i mask) (length table) n past (λ m above below. ap (λ t. t && get_or mask m false) (square_past table i m square row above))

pub mask_end : (mask : List Bool) (n : ℕ) → length mask ≤ n → count_to (λ j. get_or mask j false) n ≡ count_to (λ j. get_or mask j false) (length mask)
mask_end mask n past = count_stays (λ j. get_or mask j false) (length mask) n past (λ m above below. get_or_past mask m false above)

abbrev pub one : Bool → ℕ
one b = cond b 1 0

-- all of a set but i
but_one : (test : ℕ → Bool) (i n : ℕ) → n ≤ i → count_to (λ j. not (i == j) && test j) n ≡ count_to test n
but_one test i n low = count_same (λ j. not (i == j) && test j) test n (λ j below. ap (λ t. not t && test j) (ne_eqb i j (omega arith)))

all_but : (test : ℕ → Bool) (i n : ℕ) → i < n → count_to (λ j. not (i == j) && test j) n + one (test i) ≡ count_to test n
all_but test i zero low = absurd (omega arith)
all_but test i (suc n) low =
    let here = count_next (λ j. not (i == j) && test j) n in
    let there = count_next test n in
    elim (cases_eq i n) [
      | inl same ↦
          (let before = but_one test i n (omega arith) in
          let none : one (not (i == n) && test n) ≡ 0 = ap (λ t. one (not t && test n)) (eq-eqb i n same) in
          let itself : one (test i) ≡ one (test n) = ap (λ k. one (test k)) same in
          omega arith)
      | inr apart ↦
          (let before = all_but test i n (omega arith) in
          let step : one (not (i == n) && test n) ≡ one (test n) = ap (λ t. one (not t && test n)) (ne_eqb i n apart) in
          omega arith)
    ]

pub whole_counted : (n i : ℕ) (mask : List Bool) (all : ℕ) (b : Bool) → i < n → length mask ≡ n → all ≡ count_to (λ j. get_or mask j false) (length mask) → b ≡ get_or mask i false
    → count_to (is_both (whole_of n) i mask) n + one b ≡ all
whole_counted n i mask all b row same is has =
    let joined = count_same (is_both (whole_of n) i mask) (λ j. not (i == j) && get_or mask j false) n (λ j below. ap (λ t. t && get_or mask j false) (joins_whole n i j row below)) in
    let but = all_but (λ j. get_or mask j false) i n row in
    let b_is : one b ≡ one (get_or mask i false) = ap one has in
    let all_is : count_to (λ j. get_or mask j false) (length mask) ≡ count_to (λ j. get_or mask j false) n = ap (count_to (λ j. get_or mask j false)) same in
    omega arith

-- what two tests keep, counted
both_of : (table : List (List Bool)) (i : ℕ) (mask : List Bool) → count_to (is_both table i mask) (length table) ≡ length (filter (λ j. get_or mask j false) (neighbours table i))
both_of table i mask = ap length (sym (filter_twice (λ j. get_or mask j false) (joins table i) (places (length table))))

pub seen_both : (n : ℕ) (rows : Option (List (List Bool))) (table : List (List Bool)) (i : ℕ) (mask : List Bool) (count : ℕ) → AreSights n rows → table_or n rows ≡ table → rows ≡ None
    → count ≡ count_to (is_both (whole_of n) i mask) n → count ≡ length (filter (λ j. get_or mask j false) (neighbours table i))
seen_both n rows table i mask count are seen none is =
    is
    ∙ (ap (count_to (is_both (whole_of n) i mask)) (seen_length n rows table are seen)
    ∙ (ap (λ t. count_to (is_both t i mask) (length table)) (seen_whole n rows table seen none) ∙ both_of table i mask))

pub kept_both : (n : ℕ) (rows : Option (List (List Bool))) (table kept : List (List Bool)) (i : ℕ) (mask : List Bool) (count : ℕ) → table_or n rows ≡ table → rows ≡ Some kept
    → count ≡ count_to (is_both kept i mask) (length kept) → count ≡ length (filter (λ j. get_or mask j false) (neighbours table i))
kept_both n rows table kept i mask count seen some is =
    is ∙ (both_of kept i mask ∙ ap (λ t. length (filter (λ j. get_or mask j false) (neighbours t i))) (ap (table_or n) (sym some) ∙ seen))

pub whole_but_has : (count all : ℕ) (b : Bool) → count + one b ≡ all → b ≡ true → count + 1 ≡ all
whole_but_has count all b is has = ap (λ t. count + one t) (sym has) ∙ is

pub whole_but_hasnt : (count all : ℕ) (b : Bool) → count + one b ≡ all → b ≡ false → count ≡ all
whole_but_hasnt count all b is hasnt = let none : one b ≡ 0 = ap one hasnt in omega arith

pub mask_few : (mask : List Bool) (w count : ℕ) → count ≡ count_to (λ j. get_or mask j false) (64 * w) → count ≤ 64 * w
mask_few mask w count is = let few = count_few (λ j. get_or mask j false) (64 * w) in omega arith

pub both_few : (table : List (List Bool)) (i : ℕ) (mask : List Bool) (w count : ℕ) → count ≡ count_to (is_both table i mask) (64 * w) → count ≤ 64 * w
both_few table i mask w count is = let few = count_few (is_both table i mask) (64 * w) in omega arith
