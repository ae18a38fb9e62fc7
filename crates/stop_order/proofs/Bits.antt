-- A bit taken out of a number, and how many a number has.
use Rattle.std.proofs.Common.{◌≡◌, ◌≢◌, ℕ, zero, suc, ◌+◌, ◌-◌, ◌*◌, ◌/◌, ◌%◌, ◌^◌, ◌<◌, ◌≤◌, refl, sym, ap, ◌∙◌, arith, inl, inr}
use Rattle.std.specs.Int.{bit_at}
use Rattle.std.proofs.Math.Nat.{pow-succ'}
use Rattle.std.proofs.Math.Pow.{pow_mono}
use Rattle.std.proofs.lemmas.Bool.{cases_eq, cases_lt}
use Rattle.std.proofs.lemmas.Nat.Bits.{bit_at_lowest, bit_at-suc, bit_at-zero, bit_at_above, bit_at_ones, same_from_bits_below}

pub power_some : (k : ℕ) → 1 ≤ 2 ^ k
power_some k = pow_mono {i = 0} {j = k} (omega arith)

-- a number is at least each of its bits
pub bit_within : (n k : ℕ) → bit_at n k ≡ 1 → 2 ^ k ≤ n
bit_within n k has = elim (cases_lt n (2 ^ k)) [
  | inl low ↦ absurd (let none : bit_at n k ≡ 0 = bit_at_above n k k low (omega arith) in omega arith)
  | inr high ↦ high
]

-- the bits of a number below a power are below its exponent
pub bit_below : (n w k : ℕ) → n < 2 ^ w → bit_at n k ≡ 1 → k < w
bit_below n w k low has = elim (cases_lt k w) [
  | inl below ↦ below
  | inr above ↦ absurd (let none : bit_at n k ≡ 0 = bit_at_above n w k low above in omega arith)
]

-- without the bit, it isn't there
pub less_same : (n k : ℕ) → bit_at n k ≡ 1 → bit_at (n - 2 ^ k) k ≡ 0
less_same n zero has = rw bit_at_lowest (let odd : n % 2 ≡ 1 = sym (bit_at_lowest n) ∙ has in omega arith)
less_same n (suc k) has =
    let half : bit_at (n / 2) k ≡ 1 = sym (bit_at-suc n k) ∙ has in
    let halved : (n - 2 ^ suc k) / 2 ≡ n / 2 - 2 ^ k = rw (pow-succ' 2 k) (omega arith) in
    bit_at-suc (n - 2 ^ suc k) k ∙ (ap (λ m. bit_at m k) halved ∙ less_same (n / 2) k half)

-- and the others are
pub less_other : (n k i : ℕ) → bit_at n k ≡ 1 → i ≢ k → bit_at (n - 2 ^ k) i ≡ bit_at n i
less_other n zero zero has other = absurd (other refl)
less_other n zero (suc i) has other =
    let odd : n % 2 ≡ 1 = sym (bit_at_lowest n) ∙ has in
    let halved : (n - 2 ^ 0) / 2 ≡ n / 2 = omega arith in
    bit_at-suc (n - 2 ^ 0) i ∙ (ap (λ m. bit_at m i) halved ∙ sym (bit_at-suc n i))
less_other n (suc k) zero has other =
    let high : 2 * 2 ^ k ≤ n = rw (← pow-succ' 2 k) (bit_within n (suc k) has) in
    let even : (n - 2 ^ suc k) % 2 ≡ n % 2 = rw (pow-succ' 2 k) (omega arith) in
    bit_at_lowest (n - 2 ^ suc k) ∙ (even ∙ sym (bit_at_lowest n))
less_other n (suc k) (suc i) has other =
    let half : bit_at (n / 2) k ≡ 1 = sym (bit_at-suc n k) ∙ has in
    let halved : (n - 2 ^ suc k) / 2 ≡ n / 2 - 2 ^ k = rw (pow-succ' 2 k) (omega arith) in
    bit_at-suc (n - 2 ^ suc k) i
    ∙ (ap (λ m. bit_at m i) halved ∙ (less_other (n / 2) k i half (λ same. other (ap suc same)) ∙ sym (bit_at-suc n i)))

-- how many of the lowest w bits a number has
abbrev pub count : ℕ → ℕ → ℕ
count zero n = 0
count (suc w) n = count w n + bit_at n w

count_same : (w m n : ℕ) → ((i : ℕ) → i < w → bit_at m i ≡ bit_at n i) → count w m ≡ count w n
count_same zero m n same = refl
count_same (suc w) m n same =
    let below : count w m ≡ count w n = count_same w m n (λ i low. same i (omega arith)) in
    let here : bit_at m w ≡ bit_at n w = same w (omega arith) in
    omega arith

-- without a bit there is one less
pub count_less : (w n k : ℕ) → k < w → bit_at n k ≡ 1 → count w n ≡ suc (count w (n - 2 ^ k))
count_less zero n k low has = absurd (omega arith)
count_less (suc w) n k low has = elim (cases_eq k w) [
  | inl same ↦
      (let below : count w (n - 2 ^ k) ≡ count w n = count_same w (n - 2 ^ k) n (λ i under. less_other n k i has (omega arith)) in
      let gone : bit_at (n - 2 ^ k) w ≡ 0 = ap (λ i. bit_at (n - 2 ^ k) i) (sym same) ∙ less_same n k has in
      let had : bit_at n w ≡ 1 = ap (bit_at n) (sym same) ∙ has in
      omega arith)
  | inr other ↦
      (let below : count w n ≡ suc (count w (n - 2 ^ k)) = count_less w n k (omega arith) has in
      let here : bit_at (n - 2 ^ k) w ≡ bit_at n w = less_other n k w has (λ same. other (sym same)) in
      omega arith)
]

pub count_none : (w : ℕ) → count w 0 ≡ 0
count_none zero = refl
count_none (suc w) = let below = count_none w in let here = bit_at-zero w in omega arith

-- of the number before a power
pub count_ones : (w k : ℕ) → w ≤ k → count w (2 ^ k - 1) ≡ w
count_ones zero k low = refl
count_ones (suc w) k low =
    let below = count_ones w k (omega arith) in
    let here = bit_at_ones k w (omega arith) in
    omega arith

no_bit : (w n : ℕ) → count w n ≡ 0 → (i : ℕ) → i < w → bit_at n i ≡ 0
no_bit zero n none i low = absurd (omega arith)
no_bit (suc w) n none i low = elim (cases_eq i w) [
  | inl same ↦ ap (bit_at n) same ∙ (omega arith)
  | inr other ↦ no_bit w n (omega arith) i (omega arith)
]

-- a number without bits is zero
pub count_zero : (w n : ℕ) → n < 2 ^ w → count w n ≡ 0 → n ≡ 0
count_zero w n low none =
    let some = power_some w in
    same_from_bits_below w n 0 low (omega arith) (λ i below. no_bit w n none i below ∙ sym (bit_at-zero i))

-- eight bits are at most 256
pub power_256 : (k : ℕ) → k ≤ 8 → 2 ^ k ≤ 256
power_256 k few = pow_mono {i = k} {j = 8} few
