-- The bits of a word, counted and looked for.
use Rattle.std.proofs.Common.{◌≡◌, ℕ, zero, suc, ◌+◌, ◌-◌, ◌*◌, ◌/◌, ◌%◌, ◌^◌, ◌<◌, ◌≤◌, false, cond, not, ◌&&◌, ◌==◌, refl, sym, ap, ◌∙◌, arith, inl, inr, min, bit_and, count_ones, w64}
use mir.Val.{bits}
use Rattle.std.specs.Int.Count.{ones, ones_in}
use Rattle.std.specs.Int.{bit_at, bit_not, trailing_zeros}
use Rattle.std.proofs.Math.Bool.{and-true, and-false}
use Rattle.std.proofs.lemmas.Bool.{cases_eq, cases_lt, eq-eqb, ne_eqb}
use Rattle.std.proofs.lemmas.Nat.{and_mask, mod-pow-add, one_shl, ones_cat, pow_pos, mod_below, shr-shr, shr_le}
use Rattle.std.proofs.lemmas.Nat.Bits.{bit_at-lt, bit_at-trailing_zeros, bit_at_above, bit_at_and, bit_at_clear_same, bit_at_clear_other, bit_at_not, bit_at-zero}
use Rattle.unit_sight.specs.Words.{bits_in, count_to}
use Rattle.unit_sight.proofs.Counts.{count_next, count_more, count_stays}

-- a bit as a number
bit_number : (bit : ℕ) → bit < 2 → count_ones bit ≡ cond (bit == 1) 1 0
unfolding ones ones_in
bit_number zero low = refl
bit_number (suc zero) low = refl
bit_number (suc (suc n)) low = absurd (omega arith)

-- the bits below the k-th, counted
pub ones_mod : (n k : ℕ) → count_ones (n % 2 ^ k) ≡ count_to (bits_in n) k
ones_mod n zero = let none : n % 2 ^ 0 ≡ zero = omega arith in ap count_ones none ∙ bit_number zero (omega arith)
ones_mod n (suc k) =
    let split : n % 2 ^ (1 + k) ≡ (n / 2 ^ k % 2 ^ 1) * 2 ^ k + n % 2 ^ k = mod-pow-add n 1 k in
    let below : n % 2 ^ k < 2 ^ k = mod_below n (2 ^ k) (pow_pos k) in
    let rest = ones_mod n k in
    let next = count_next (bits_in n) k in
    let here = bit_number (bit_at n k) (bit_at-lt n k) in
    let apart : count_ones (bit_at n k * 2 ^ k + n % 2 ^ k) ≡ count_ones (bit_at n k) + count_ones (n % 2 ^ k) = ones_cat k (bit_at n k) (n % 2 ^ k) below in
    let same : suc k ≡ 1 + k = omega arith in
    ap (λ m. count_ones (n % 2 ^ m)) same ∙ (ap count_ones split ∙ (apart ∙ (omega arith)))

pub ones_masked : (n k : ℕ) → k < 64 → count_ones (bit_and n (1 * 2 ^ k % 2 ^ 64 - 1)) ≡ count_to (bits_in n) k
ones_masked n k low =
    ap (λ m. count_ones (bit_and n (m - 1))) (one_shl k 64 low) ∙ (ap count_ones (and_mask n k) ∙ ones_mod n k)

pub ones_all : (n : ℕ) → n < 2 ^ 64 → count_ones n ≡ count_to (bits_in n) 64
ones_all n fits = let same : n ≡ n % 2 ^ 64 = omega arith in ap count_ones same ∙ ones_mod n 64

-- a bit of a word that was shifted
pub bit_shifted : (n a k : ℕ) → bit_at (n / 2 ^ a) k ≡ bit_at n (a + k)
bit_shifted n a k = ap (λ m. m % 2) (shr-shr n a k)

bit_behind : (n a k : ℕ) → a ≤ k → bit_at n k ≡ bit_at (n / 2 ^ a) (k - a)
bit_behind n a k behind = let same : k ≡ a + (k - a) = omega arith in ap (bit_at n) same ∙ sym (bit_shifted n a (k - a))

-- a word without bits from one on
pub none_behind : (n a k : ℕ) → n / 2 ^ a ≡ 0 → a ≤ k → bit_at n k ≡ 0
none_behind n a k none behind = bit_behind n a k behind ∙ (ap (λ m. bit_at m (k - a)) none ∙ bit_at-zero (k - a))

shifted_fits : (n a : ℕ) → n < 2 ^ 64 → n / 2 ^ a < 2 ^ 64
shifted_fits n a fits = let less = shr_le n a in omega arith

-- the first bit from one on
pub first_has : (n a : ℕ) → n < 2 ^ 64 → 0 < n / 2 ^ a → bit_at n (a + trailing_zeros w64 (n / 2 ^ a)) ≡ 1
first_has n a fits some = sym (bit_shifted n a (trailing_zeros w64 (n / 2 ^ a))) ∙ (bit_at-trailing_zeros w64 (n / 2 ^ a) some (shifted_fits n a fits)).1

pub first_within : (n a : ℕ) → n < 2 ^ 64 → 0 < n / 2 ^ a → a + trailing_zeros w64 (n / 2 ^ a) < 64
first_within n a fits some = elim (cases_lt (a + trailing_zeros w64 (n / 2 ^ a)) 64) [
  | inl within ↦ within
  | inr above ↦
      absurd
      (let none : bit_at n (a + trailing_zeros w64 (n / 2 ^ a)) ≡ 0 = bit_at_above n 64 (a + trailing_zeros w64 (n / 2 ^ a)) fits above in
      let has = first_has n a fits some in
      omega arith)
]

pub first_none : (n a k : ℕ) → n < 2 ^ 64 → 0 < n / 2 ^ a → a ≤ k → k < a + trailing_zeros w64 (n / 2 ^ a) → bit_at n k ≡ 0
first_none n a k fits some behind below =
    bit_behind n a k behind ∙ (bit_at-trailing_zeros w64 (n / 2 ^ a) some (shifted_fits n a fits)).2 (k - a) (omega arith)

-- bits of one word and not of another
min_bits : (a b : ℕ) → a < 2 → b < 2 → (min a (1 - b) == 1) ≡ ((a == 1) && not (b == 1))
min_bits zero zero low few = refl
min_bits zero (suc zero) low few = refl
min_bits (suc zero) zero low few = refl
min_bits (suc zero) (suc zero) low few = refl
min_bits (suc (suc n)) b low few = absurd (omega arith)
min_bits zero (suc (suc n)) low few = absurd (omega arith)
min_bits (suc zero) (suc (suc n)) low few = absurd (omega arith)

pub less_bits : (n m k : ℕ) → m < 2 ^ 64 → k < 64 → bits_in (bit_and n (bit_not w64 m)) k ≡ (bits_in n k && not (bits_in m k))
less_bits n m k fits low =
    ap (λ bit. bit == 1) (bit_at_and n (bit_not w64 m) k ∙ ap (min (bit_at n k)) (bit_at_not w64 m k fits low))
    ∙ min_bits (bit_at n k) (bit_at m k) (bit_at-lt n k) (bit_at-lt m k)

-- a word less a bit
pub without_bits : (n k i : ℕ) → k < 64 → i < 64 → bits_in (bit_and n (bit_not w64 (1 * 2 ^ k % 2 ^ bits w64))) i ≡ (bits_in n i && not (i == k))
without_bits n k i within low = elim (cases_eq i k) [
  | inl same ↦
      ap (bits_in (bit_and n (bit_not w64 (1 * 2 ^ k % 2 ^ bits w64)))) same
      ∙ (ap (λ bit. bit == 1) (bit_at_clear_same w64 n k within)
      ∙ (sym (and-false (bits_in n i)) ∙ ap (λ t. bits_in n i && not t) (sym (eq-eqb i k same))))
  | inr other ↦
      ap (λ bit. bit == 1) (bit_at_clear_other w64 n k within i low other)
      ∙ (sym (and-true (bits_in n i)) ∙ ap (λ t. bits_in n i && not t) (sym (ne_eqb i k other)))
]

-- the k-th bit of a word
pub record IsNth (word at k : ℕ) : Type 0 where
  pub within : at < 64
  pub bit : bit_at word at ≡ 1
  pub count : count_to (bits_in word) at ≡ k

no_bit : (word m : ℕ) → bit_at word m ≡ 0 → bits_in word m ≡ false
no_bit word m none = ap (λ bit. bit == 1) none

-- no bit from `low` to `at`
stays : (word low at : ℕ) → low ≤ at → ((m : ℕ) → low ≤ m → m < at → bit_at word m ≡ 0) → count_to (bits_in word) at ≡ count_to (bits_in word) low
stays word low at rising none = count_stays (bits_in word) low at rising (λ m above below. no_bit word m (none m above below))

pub nth_first : (word low at k : ℕ) → k < count_to (bits_in word) 64 → count_to (bits_in word) low ≡ k → low ≤ at → at ≤ 64
    → (at < 64 → bit_at word at ≡ 1) → ((m : ℕ) → low ≤ m → m < at → bit_at word m ≡ 0) → IsNth word at k
nth_first word low at k more counted rising range bit none =
    let same = stays word low at rising none in
    elim (cases_lt at 64) [
      | inl within ↦ record { within = within; bit = bit within; count = same ∙ counted }
      | inr above ↦ absurd (let last : at ≡ 64 = omega arith in let all : count_to (bits_in word) at ≡ count_to (bits_in word) 64 = ap (count_to (bits_in word)) last in omega arith)
    ]

pub nth_counted : (word at k : ℕ) → IsNth word at k → count_to (bits_in word) (at + 1) ≡ k + 1
nth_counted word at k is =
    let next : at + 1 ≡ suc at = omega arith in
    let more = count_more (bits_in word) at (ap (λ bit. bit == 1) is.bit) in
    let here = is.count in
    ap (count_to (bits_in word)) next ∙ (omega arith)

pub nth_room : (word at k : ℕ) → IsNth word at k → k + 1 < count_to (bits_in word) 64 → at + 1 < 64
nth_room word at k is more = elim (cases_lt (at + 1) 64) [
  | inl within ↦ within
  | inr above ↦
      absurd
      (let low = is.within in
      let last : at + 1 ≡ 64 = omega arith in
      let all : count_to (bits_in word) (at + 1) ≡ count_to (bits_in word) 64 = ap (count_to (bits_in word)) last in
      let counted = nth_counted word at k is in
      omega arith)
]
