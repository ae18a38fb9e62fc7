-- The words of a table: where a bit stands, and what stands there when one is set.
use Rattle.std.proofs.Common.{◌≡◌, ◌≢◌, ℕ, zero, ◌+◌, ◌*◌, ◌/◌, ◌%◌, ◌^◌, ◌<◌, ◌≤◌, Bool, false, ◌&&◌, ◌||◌, ◌==◌, List, length, get_or, set, replicate, sym, ap, ◌∙◌, arith, inl, inr, map, []}
use Rattle.std.specs.Int.{bit_at}
use Rattle.std.proofs.lemmas.Bool.{cases_eq, cases_lt, eq-eqb, ne_eqb, and_left, and_right}
use Rattle.std.proofs.lemmas.List.{get_or-set_same, get_or-set_other, get_or_past, get_or-replicate, length-map, length-replicate, length-set, set_past}
use Rattle.std.proofs.Math.Bool.{or-false, or-true, or_assoc}
use Rattle.std.proofs.lemmas.Grind.{get_or_default_zero}
use Rattle.std.proofs.lemmas.List.Elements.{All-set, All-from_get_or}
use Rattle.std.proofs.lemmas.Nat.Bits.{bit_at-zero}
use Rattle.std.proofs.lemmas.Nat.{div-mul-add, mul-add-lt}
use Rattle.unit_sight.specs.Words.{bits_in, words_in, word_at, bit_in, bits_of, AreBits}
use Rattle.unit_sight.specs.Tables.{joins, places, table_of}
use Rattle.unit_sight.proofs.TableLemmas.{get_or_row, length_places, length_table, joins_table, table_same}

position_same : (w a b i j : ℕ) → b < w → j < w → a * w + b ≡ i * w + j → (a ≡ i) × (b ≡ j)
position_same w a b i j first second same =
    let rows : a ≡ i = sym (div-mul-add a w b first) ∙ (ap (λ n. n / w) same ∙ div-mul-add i w j second) in
    let products : a * w ≡ i * w = ap (λ k. k * w) rows in
    (rows, omega arith)

-- what is known of a word with a bit set
pub record HasPut (word put k : ℕ) : Type 0 where
  pub has : bit_at put k ≡ 1
  pub others : (i : ℕ) → i ≢ k → bit_at put i ≡ bit_at word i

put_same : (size : ℕ) (words : List ℕ) (i j put : ℕ) → length words ≡ size * words_in size → i < size → j < size
    → HasPut (word_at size words i j) put (j % 64) → bit_at (word_at size (set words (i * words_in size + j / 64) put) i j) (j % 64) ≡ 1
put_same size words i j put count row column is =
    let inside : i * words_in size + j / 64 < words_in size * size = mul-add-lt i (words_in size) (j / 64) size row (omega arith) in
    ap (λ word. bit_at word (j % 64)) (get_or-set_same words (i * words_in size + j / 64) put 0 (omega arith)) ∙ is.has

put_other : (size : ℕ) (words : List ℕ) (i j put a b : ℕ) → j / 64 < words_in size → b / 64 < words_in size → ((a ≡ i) × (b ≡ j) → ⊥)
    → HasPut (word_at size words i j) put (j % 64)
    → bit_at (word_at size (set words (i * words_in size + j / 64) put) a b) (b % 64) ≡ bit_at (word_at size words a b) (b % 64)
put_other size words i j put a b column behind other is = elim (cases_eq (a * words_in size + b / 64) (i * words_in size + j / 64)) [
  | inl here ↦
      (let places = position_same (words_in size) a (b / 64) i (j / 64) behind column here in
      let apart : b % 64 ≢ j % 64 = λ same. other (places.0, let words_same = places.1 in omega arith) in
      elim (cases_lt (i * words_in size + j / 64) (length words)) [
        | inl inside ↦
            ap (λ k. bit_at (get_or (set words (i * words_in size + j / 64) put) k 0) (b % 64)) here
            ∙ (ap (λ word. bit_at word (b % 64)) (get_or-set_same words (i * words_in size + j / 64) put 0 inside)
            ∙ (is.others (b % 64) apart ∙ ap (λ k. bit_at (get_or words k 0) (b % 64)) (sym here)))
        | inr outside ↦ ap (λ list. bit_at (get_or list (a * words_in size + b / 64) 0) (b % 64)) (set_past words (i * words_in size + j / 64) put outside)
      ])
  | inr there ↦ ap (λ word. bit_at word (b % 64)) (get_or-set_other words (i * words_in size + j / 64) (a * words_in size + b / 64) put 0 there)
]

-- the bit of a place after one was set
put_bit : (size : ℕ) (words : List ℕ) (i j put a b : ℕ) → length words ≡ size * words_in size → i < size → j < size → b < size
    → HasPut (word_at size words i j) put (j % 64)
    → bit_in size (set words (i * words_in size + j / 64) put) a b ≡ (bit_in size words a b || ((a == i) && (b == j)))
put_bit size words i j put a b count row column within is = elim (cases_eq a i) [
  | inl same_row ↦ elim (cases_eq b j) [
    | inl same_column ↦
        (let has : bit_at (word_at size (set words (i * words_in size + j / 64) put) a b) (b % 64) ≡ 1 =
        ap (λ k. bit_at (word_at size (set words (i * words_in size + j / 64) put) k b) (b % 64)) same_row
        ∙ (ap (λ k. bit_at (word_at size (set words (i * words_in size + j / 64) put) i k) (k % 64)) same_column
        ∙ put_same size words i j put count row column is) in
        eq-eqb _ _ has ∙ (sym (or-true (bit_in size words a b)) ∙ sym (ap (λ t. bit_in size words a b || t) (rw (eq-eqb a i same_row) (eq-eqb b j same_column)))))
    | inr other ↦
        ap (λ bit. bit == 1) (put_other size words i j put a b (omega arith) (omega arith) (λ both. other both.1) is)
        ∙ (sym (or-false (bit_in size words a b)) ∙ sym (ap (λ t. bit_in size words a b || t) (and_right (a == i) (b == j) (ne_eqb b j other))))
  ]
  | inr other ↦
      ap (λ bit. bit == 1) (put_other size words i j put a b (omega arith) (omega arith) (λ both. other both.0) is)
      ∙ (sym (or-false (bit_in size words a b)) ∙ sym (ap (λ t. bit_in size words a b || t) (and_left (a == i) (b == j) (ne_eqb a i other))))
]

-- the table after a bit was set
pub put_table : (size : ℕ) (words : List ℕ) (i j put : ℕ) → length words ≡ size * words_in size → i < size → j < size
    → HasPut (word_at size words i j) put (j % 64)
    → bits_of size (set words (i * words_in size + j / 64) put)
    ≡ table_of (length (bits_of size words)) (λ a b. joins (bits_of size words) a b || ((a == i) && (b == j)))
put_table size words i j put count row column is =
    rw (length_table size (bit_in size words))
    (table_same size (bit_in size (set words (i * words_in size + j / 64) put)) (λ a b. joins (bits_of size words) a b || ((a == i) && (b == j)))
    (λ a b above within.
    put_bit size words i j put a b count row column within is
    ∙ ap (λ t. t || ((a == i) && (b == j))) (sym (joins_table size (bit_in size words) a b above within))))

-- the words with a bit set are words of a table
pub put_bits : (size : ℕ) (words : List ℕ) (i j put : ℕ) → AreBits size words → i < size → j < size → put < 2 ^ 64
    → HasPut (word_at size words i j) put (j % 64)
    → AreBits size (set words (i * words_in size + j / 64) put)
put_bits size words i j put are row column fits is = record {
  range = are.range;
  count = length-set words (i * words_in size + j / 64) put ∙ are.count;
  fits = All-set (λ (word : ℕ). word < 2 ^ 64) words (i * words_in size + j / 64) put fits are.fits;
  nothing_behind = λ a b above behind low.
      put_other size words i j put a b (omega arith) (omega arith) (λ both. let same = both.1 in omega arith) is
      ∙ are.nothing_behind a b above behind low;
}

-- words of 0 have no bit
zero_bit : (size n i j : ℕ) → bit_at (word_at size (replicate n 0) i j) (j % 64) ≡ 0
zero_bit size n i j = elim (cases_lt (i * words_in size + j / 64) n) [
  | inl inside ↦ ap (λ word. bit_at word (j % 64)) (get_or-replicate n (i * words_in size + j / 64) 0 0 inside) ∙ bit_at-zero (j % 64)
  | inr outside ↦
      (let size_is : length (replicate n zero) ≡ n = length-replicate n zero in
      ap (λ word. bit_at word (j % 64)) (get_or_past (replicate n 0) (i * words_in size + j / 64) 0 (omega arith)) ∙ bit_at-zero (j % 64))
]

-- words of 0 are the table of nothing but false
pub zero_table : (size n : ℕ) → bits_of size (replicate n 0) ≡ table_of size (λ i j. false)
zero_table size n = table_same size (bit_in size (replicate n 0)) (λ i j. false) (λ i j row column. ap (λ bit. bit == 1) (zero_bit size n i j))

pub zero_bits : (size n : ℕ) → size ≤ 4096 → n ≡ size * words_in size → AreBits size (replicate n 0)
zero_bits size n range count = record {
  range = range;
  count = length-replicate n 0 ∙ count;
  fits = All-from_get_or (λ (word : ℕ). word < 2 ^ 64) (replicate n 0) 0 (λ k low. let size_is : length (replicate n zero) ≡ n = length-replicate n zero in let word_is : get_or (replicate n zero) k zero ≡ zero = get_or-replicate n k zero zero (omega arith) in omega arith);
  nothing_behind = λ i j row behind low. zero_bit size n i j;
}

-- of a table that is seen: its size, and a place in it is a place of the words
pub seen_size : (size : ℕ) (words : List ℕ) (table : List (List Bool)) → bits_of size words ≡ table → size ≡ length table
seen_size size words table seen = sym (length_table size (bit_in size words)) ∙ ap length seen

pub in_table : (size : ℕ) (words : List ℕ) (table : List (List Bool)) (i : ℕ) → bits_of size words ≡ table → i < length table → i < size
in_table size words table i seen low = let same = seen_size size words table seen in omega arith

-- what was read where the word of a place stands is that word
pub read_word : (size : ℕ) (words : List ℕ) (i j k x : ℕ) → k ≡ i * words_in size + j / 64 → k < length words → x ≡ get_or words k x → x ≡ word_at size words i j
read_word size words i j k x place inside read = read ∙ (get_or_default_zero words k x inside ∙ ap (λ n. get_or words n 0) place)

-- a bit that was read
pub seen_bit : (size : ℕ) (words : List ℕ) (table : List (List Bool)) (i j x : ℕ) (bit : Bool) → bits_of size words ≡ table → i < length table → j < length table
    → x ≡ word_at size words i j → bit ≡ (bit_at x (j % 64) == 1) → bit ≡ joins table i j
seen_bit size words table i j x bit seen row column read is =
    is ∙ (ap (λ word. bit_at word (j % 64) == 1) read
    ∙ (sym (joins_table size (bit_in size words) i j (in_table size words table i seen row) (in_table size words table j seen column))
    ∙ ap (λ t. joins t i j) seen))

has_put : (word x put k : ℕ) → x ≡ word → bit_at put k ≡ 1 → ((i : ℕ) → i ≢ k → bit_at put i ≡ bit_at x i) → HasPut word put k
has_put word x put k read has others = record { has = has; others = λ i apart. others i apart ∙ ap (λ n. bit_at n i) read }

-- a bit that was set
pub seen_put : (size : ℕ) (words : List ℕ) (table : List (List Bool)) (i j k x put : ℕ) → bits_of size words ≡ table → AreBits size words
    → i < length table → j < length table → k ≡ i * words_in size + j / 64 → x ≡ word_at size words i j
    → bit_at put (j % 64) ≡ 1 → ((n : ℕ) → n ≢ j % 64 → bit_at put n ≡ bit_at x n)
    → bits_of size (set words k put) ≡ table_of (length table) (λ a b. joins table a b || ((a == i) && (b == j)))
seen_put size words table i j k x put seen are row column place read has others =
    ap (λ n. bits_of size (set words n put)) place
    ∙ (put_table size words i j put are.count (in_table size words table i seen row) (in_table size words table j seen column) (has_put (word_at size words i j) x put (j % 64) read has others)
    ∙ ap (λ t. table_of (length t) (λ a b. joins t a b || ((a == i) && (b == j)))) seen)

pub seen_put_bits : (size : ℕ) (words : List ℕ) (table : List (List Bool)) (i j k x put : ℕ) → bits_of size words ≡ table → AreBits size words
    → i < length table → j < length table → k ≡ i * words_in size + j / 64 → x ≡ word_at size words i j → put < 2 ^ 64
    → bit_at put (j % 64) ≡ 1 → ((n : ℕ) → n ≢ j % 64 → bit_at put n ≡ bit_at x n)
    → AreBits size (set words k put)
seen_put_bits size words table i j k x put seen are row column place read fits has others =
    rw place
    (put_bits size words i j put are (in_table size words table i seen row) (in_table size words table j seen column) fits (has_put (word_at size words i j) x put (j % 64) read has others))

pub put_length : (table middle : List (List Bool)) (i j : ℕ) → middle ≡ table_of (length table) (λ a b. joins table a b || ((a == i) && (b == j))) → length middle ≡ length table
put_length table middle i j first = ap length first ∙ length_table (length table) (λ a b. joins table a b || ((a == i) && (b == j)))

-- a bit set both ways
pub put_twice : (table middle last : List (List Bool)) (i j : ℕ)
    → middle ≡ table_of (length table) (λ a b. joins table a b || ((a == i) && (b == j)))
    → last ≡ table_of (length middle) (λ a b. joins middle a b || ((a == j) && (b == i)))
    → last ≡ table_of (length table) (λ a b. joins table a b || (((a == i) && (b == j)) || ((a == j) && (b == i))))
put_twice table middle last i j first second =
    second
    ∙ (ap (λ n. table_of n (λ a b. joins middle a b || ((a == j) && (b == i)))) (put_length table middle i j first)
    ∙ table_same (length table) (λ a b. joins middle a b || ((a == j) && (b == i))) (λ a b. joins table a b || (((a == i) && (b == j)) || ((a == j) && (b == i))))
    (λ a b row column.
    ap (λ t. t || ((a == j) && (b == i))) (ap (λ t. joins t a b) first ∙ joins_table (length table) (λ c d. joins table c d || ((c == i) && (d == j))) a b row column)
    ∙ or_assoc (joins table a b) ((a == i) && (b == j)) ((a == j) && (b == i))))

pub row_past : (n : ℕ) (test : ℕ → ℕ → Bool) (i j : ℕ) → i < n → n ≤ j → joins (table_of n test) i j ≡ false
row_past n test i j row past =
    ap (λ values. get_or values j false) (get_or_row (λ a. map (test a) (places n)) n i [] row)
    ∙ get_or_past (map (test i) (places n)) j false (let size = length-map (places n) (test i) in let all = length_places n in omega arith)

bit_of_word : (size : ℕ) (words : List ℕ) (i w k : ℕ) → AreBits size words → i < size → w < words_in size → k < 64
    → joins (bits_of size words) i (64 * w + k) ≡ bits_in (get_or words (i * words_in size + w) 0) k
bit_of_word size words i w k are row within low =
    let word_same : (64 * w + k) / 64 ≡ w = omega arith in
    let bit_same : (64 * w + k) % 64 ≡ k = omega arith in
    let bit_is : bit_at (word_at size words i (64 * w + k)) ((64 * w + k) % 64) ≡ bit_at (get_or words (i * words_in size + w) 0) k =
    ap (λ b. bit_at (word_at size words i (64 * w + k)) b) bit_same ∙ ap (λ n. bit_at (get_or words (i * words_in size + n) 0) k) word_same in
    elim (cases_lt (64 * w + k) size) [
      | inl column ↦ joins_table size (bit_in size words) i (64 * w + k) row column ∙ ap (λ bit. bit == 1) bit_is
      | inr past ↦
          row_past size (bit_in size words) i (64 * w + k) row past
          ∙ ap (λ bit. bit == 1) (sym (are.nothing_behind i (64 * w + k) row past (omega arith)) ∙ bit_is)
    ]

-- a word of a row that was read
pub seen_word : (size : ℕ) (words : List ℕ) (table : List (List Bool)) (i w place x : ℕ) → bits_of size words ≡ table → AreBits size words
    → i < length table → w < words_in (length table) → place ≡ i * words_in size + w → place < length words → x ≡ get_or words place x
    → (k : ℕ) → k < 64 → joins table i (64 * w + k) ≡ bits_in x k
seen_word size words table i w place x seen are row within is inside read k low =
    let same = seen_size size words table seen in
    let x_is : get_or words (i * words_in size + w) 0 ≡ x = sym (read ∙ (get_or_default_zero words place x inside ∙ ap (λ n. get_or words n 0) is)) in
    ap (λ t. joins t i (64 * w + k)) (sym seen)
    ∙ (bit_of_word size words i w k are (omega arith) (omega arith) low ∙ ap (λ word. bits_in word k) x_is)

pub word_inside : (size : ℕ) (words : List ℕ) (table : List (List Bool)) (i w : ℕ) → bits_of size words ≡ table → AreBits size words
    → i < length table → w < words_in (length table) → i * words_in size + w < length words
word_inside size words table i w seen are row within =
    let same = seen_size size words table seen in
    let count = are.count in
    let inside = mul-add-lt i (words_in size) w size (omega arith) (omega arith) in
    omega arith

-- a table that is seen is as wide as it is high
pub seen_square : (size : ℕ) (words : List ℕ) (table : List (List Bool)) → bits_of size words ≡ table → table ≡ table_of (length table) (joins table)
seen_square size words table seen =
    sym seen
    ∙ (table_same size (bit_in size words) (joins (bits_of size words)) (λ i j row column. sym (joins_table size (bit_in size words) i j row column))
    ∙ (ap (λ n. table_of n (joins (bits_of size words))) (sym (length_table size (bit_in size words))) ∙ ap (λ t. table_of (length t) (joins t)) seen))
