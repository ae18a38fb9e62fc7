-- What the words on sets of profiles say of each profile.
use Rattle.std.proofs.Common.{◌≡◌, ◌∙◌, inl, inr, ℕ, ◌+◌, ◌-◌, ◌*◌, ◌%◌, ◌^◌, ◌<◌, min, max, Bool, true, false, not, ◌&&◌, ◌||◌, nat_eq, nat_lt, IsTrue, refl, sym, ap, arith}
use Rattle.std.specs.Int.{bit_at, w16}
use Rattle.std.specs.Int.RustNames.{bit_and, bit_or}
use Rattle.std.proofs.lemmas.Bool.Decides.{nat_tests}
use Rattle.std.proofs.lemmas.Bool.{cases_lt, cases_eq, ltb-true, lt-ltb, false≢true, or_cases, and_parts}
use Rattle.std.proofs.lemmas.Nat.{and_le_r, pow_pos}
use Rattle.std.proofs.lemmas.Nat.Bits.{bit_at-lt, bit_at-zero, bit_at_or, bit_at_and, bit_at_xor, bit_at_ones, bit_at_ones_above, bit_at_above, bit_at_set_same, bit_at_set_other, same_from_bits}
use Rattle.venue_types.specs.declared.profile_set.ProfileSet.{ProfileSet}
use Rattle.venue_types.specs.ProfileSets.{has, nobody, all_of, joined, without, is_empty, has_all_of, has_any_of, is_within}

-- ---- one bit

joined_bit : (x y : ℕ) → x < 2 → y < 2 → nat_eq (max x y) 1 ≡ (nat_eq x 1 || nat_eq y 1)
joined_bit x y p q = grind (arith, nat_tests)

without_bit : (x y : ℕ) → x < 2 → y < 2 → nat_eq ((x + min x y) % 2) 1 ≡ (nat_eq x 1 && not (nat_eq y 1))
without_bit x y p q = grind (arith, nat_tests)

same_bit : (x y : ℕ) → x < 2 → y < 2 → nat_eq x 1 ≡ nat_eq y 1 → x ≡ y
same_bit x y p q e = grind (arith, nat_tests)

is_1 : (x y : ℕ) → IsTrue (nat_eq x y) → x ≡ y
is_1 x y e = grind (arith, nat_tests)

are_equal : (x y : ℕ) → x ≡ y → IsTrue (nat_eq x y)
are_equal x y e = grind (arith, nat_tests)

differ : (x y : ℕ) → IsTrue (not (nat_eq x y)) → x ≡ y → ⊥
differ x y t e = grind (arith, nat_tests)

are_other : (x y : ℕ) → (x ≡ y → ⊥) → IsTrue (not (nat_eq x y))
are_other x y e = grind (arith, nat_tests)

least_bit : (x y : ℕ) → y < 2 → (y ≡ 1 → x ≡ 1) → min x y ≡ y
least_bit x y q e = grind arith

in_part : (x y : ℕ) → x < 2 → (x ≡ 1 → y ≡ 1) → min x y ≡ x
in_part x y p e = grind arith

-- a number without a bit is 0
no_bits : (n : ℕ) → ((k : ℕ) → ¬ (bit_at n k ≡ 1)) → n ≡ 0
no_bits n none = same_from_bits n 0 (λ i.
    let small : bit_at n i < 2 = bit_at-lt n i in
    let zero_bit : bit_at 0 i ≡ 0 = bit_at-zero i in
    let other : ¬ (bit_at n i ≡ 1) = none i in
    omega arith)

or_false : (t : Bool) → (t || false) ≡ t
or_false true = refl
or_false false = refl

and_true : (t : Bool) → (t && not false) ≡ t
and_true true = refl
and_true false = refl

and_not : (t : Bool) → (t && not t) ≡ false
and_not true = refl
and_not false = refl

or_same : (t : Bool) → (t || t) ≡ t
or_same true = refl
or_same false = refl

or_implied : (s t : Bool) → (IsTrue t → IsTrue s) → (s || t) ≡ s
or_implied true t e = refl
or_implied false true e = sym (e refl)
or_implied false false e = refl

and_apart : (s t : Bool) → (IsTrue t → ¬ IsTrue s) → (s && not t) ≡ s
and_apart true true e = absurd (e refl refl)
and_apart true false e = refl
and_apart false t e = refl

-- ---- whom a set has

-- a set has a profile where the bit of its number is set
pub bit_of : (k : ℕ) (set : ProfileSet) → IsTrue (has k set) → bit_at set.0 k ≡ 1
unfolding has
bit_of k set there = is_1 (bit_at set.0 k) 1 there

pub has_bit : (k : ℕ) (set : ProfileSet) → bit_at set.0 k ≡ 1 → IsTrue (has k set)
unfolding has
has_bit k set there = are_equal (bit_at set.0 k) 1 there

pub has_nobody : (k : ℕ) → has k nobody ≡ false
unfolding has
has_nobody k = ap (λ (bit : ℕ). nat_eq bit 1) (bit_at-zero k)

pub has_joined : (set other : ProfileSet) (k : ℕ) → has k (joined set other) ≡ (has k set || has k other)
unfolding has joined
has_joined set other k =
    ap (λ (bit : ℕ). nat_eq bit 1) (bit_at_or set.0 other.0 k)
    ∙ joined_bit (bit_at set.0 k) (bit_at other.0 k) (bit_at-lt set.0 k) (bit_at-lt other.0 k)

pub has_without : (set other : ProfileSet) (k : ℕ) → has k (without set other) ≡ (has k set && not (has k other))
unfolding has without
has_without set other k =
    ap (λ (bit : ℕ). nat_eq bit 1) (bit_at_xor set.0 (bit_and set.0 other.0) k)
    ∙ ap (λ (bit : ℕ). nat_eq ((bit_at set.0 k + bit) % 2) 1) (bit_at_and set.0 other.0 k)
    ∙ without_bit (bit_at set.0 k) (bit_at other.0 k) (bit_at-lt set.0 k) (bit_at-lt other.0 k)

pub has_of_all : (count k : ℕ) → has k (all_of count) ≡ nat_lt k count
unfolding has
has_of_all count k = elim (cases_lt k count) [
  | inl below ↦ let bit = bit_at_ones count k below in grind (arith, nat_tests)
  | inr above ↦ let bit = bit_at_ones_above count k above in grind (arith, nat_tests)
]

-- one bit more
pub has_with : (set : ProfileSet) (k i : ℕ) → k < 16 → has i (record { 0 = bit_or set.0 (1 * 2 ^ k % 65536) }) ≡ (has i set || nat_eq i k)
unfolding has
has_with set k i within = elim (cases_eq i k) [
  | inl same ↦
      let bit : bit_at (bit_or set.0 (1 * 2 ^ k % 65536)) i ≡ 1 = rw same (bit_at_set_same w16 set.0 k within) in
      grind (arith, nat_tests)
  | inr other ↦
      let bit : bit_at (bit_or set.0 (1 * 2 ^ k % 65536)) i ≡ bit_at set.0 i = bit_at_set_other w16 set.0 k within i other in
      grind (arith, nat_tests)
]

-- ---- sets as wholes

-- two sets that have the same profiles are one
pub same_set : (set other : ProfileSet) → ((k : ℕ) → has k set ≡ has k other) → set ≡ other
unfolding has
same_set set other same =
    let numbers : set.0 ≡ other.0 = same_from_bits set.0 other.0
    (λ i. same_bit (bit_at set.0 i) (bit_at other.0 i) (bit_at-lt set.0 i) (bit_at-lt other.0 i) (same i)) in
    ap (λ (n : ℕ). let x : ProfileSet = record { 0 = n } in x) numbers

pub empty_has : (set : ProfileSet) → IsTrue (is_empty set) → (k : ℕ) → ¬ IsTrue (has k set)
unfolding is_empty
empty_has set empty k there =
    let bit : bit_at set.0 k ≡ 1 = bit_of k set there in
    let none : bit_at set.0 k ≡ 0 = ap (λ (n : ℕ). bit_at n k) (is_1 set.0 0 empty) ∙ bit_at-zero k in
    omega arith

pub empty_from : (set : ProfileSet) → ((k : ℕ) → ¬ IsTrue (has k set)) → IsTrue (is_empty set)
unfolding is_empty
empty_from set none = are_equal set.0 0 (no_bits set.0 (λ k there. none k (has_bit k set there)))

-- a set that is in another as a whole
pub all_have : (set other : ProfileSet) → IsTrue (has_all_of set other) → (k : ℕ) → IsTrue (has k other) → IsTrue (has k set)
unfolding has_all_of
all_have set other all k there =
    let both : min (bit_at set.0 k) (bit_at other.0 k) ≡ bit_at other.0 k =
    sym (bit_at_and set.0 other.0 k) ∙ ap (λ (n : ℕ). bit_at n k) (is_1 (bit_and set.0 other.0) other.0 all) in
    let bit : bit_at other.0 k ≡ 1 = bit_of k other there in
    let small : bit_at set.0 k < 2 = bit_at-lt set.0 k in
    has_bit k set (omega arith)

pub all_from : (set other : ProfileSet) → ((k : ℕ) → IsTrue (has k other) → IsTrue (has k set)) → IsTrue (has_all_of set other)
unfolding has_all_of
all_from set other all =
    are_equal (bit_and set.0 other.0) other.0 (same_from_bits (bit_and set.0 other.0) other.0 (λ k.
    bit_at_and set.0 other.0 k
    ∙ least_bit (bit_at set.0 k) (bit_at other.0 k) (bit_at-lt other.0 k) (λ there. bit_of k set (all k (has_bit k other there)))))

-- two sets that have nobody in common
pub none_have : (set other : ProfileSet) → (¬ IsTrue (has_any_of set other)) → (k : ℕ) → IsTrue (has k other) → ¬ IsTrue (has k set)
unfolding has_any_of
none_have set other none k in_other in_set =
    none (are_other (bit_and set.0 other.0) 0 (λ e.
    let both : min (bit_at set.0 k) (bit_at other.0 k) ≡ 0 =
    sym (bit_at_and set.0 other.0 k) ∙ ap (λ (n : ℕ). bit_at n k) e ∙ bit_at-zero k in
    let bit : bit_at other.0 k ≡ 1 = bit_of k other in_other in
    let same : bit_at set.0 k ≡ 1 = bit_of k set in_set in
    omega arith))

pub none_from : (set other : ProfileSet) → ((k : ℕ) → IsTrue (has k other) → ¬ IsTrue (has k set)) → ¬ IsTrue (has_any_of set other)
unfolding has_any_of
none_from set other none any =
    differ (bit_and set.0 other.0) 0 any (no_bits (bit_and set.0 other.0) (λ k there.
    let both : min (bit_at set.0 k) (bit_at other.0 k) ≡ 1 = sym (bit_at_and set.0 other.0 k) ∙ there in
    let small : bit_at set.0 k < 2 = bit_at-lt set.0 k in
    let other_small : bit_at other.0 k < 2 = bit_at-lt other.0 k in
    none k (has_bit k other (omega arith)) (has_bit k set (omega arith))))

-- settings with so many profiles have whom a set within them has
pub within_below : (count k : ℕ) (set : ProfileSet) → IsTrue (is_within count set) → IsTrue (has k set) → k < count
unfolding is_within
within_below count k set within there =
    let bit : bit_at set.0 k ≡ 1 = bit_of k set there in
    elim (cases_lt k count) [
      | inl below ↦ below
      | inr above ↦
          let none : bit_at set.0 k ≡ 0 = bit_at_above set.0 count k (ltb-true set.0 (2 ^ count) within) above in
          absurd (omega arith)
    ]

-- a set is the part of it that settings with so many profiles have, and that is below their power of two
pub within_from : (count : ℕ) (set : ProfileSet) → ((k : ℕ) → IsTrue (has k set) → k < count) → IsTrue (is_within count set)
unfolding is_within
within_from count set below =
    let part : bit_and set.0 (2 ^ count - 1) ≡ set.0 = same_from_bits (bit_and set.0 (2 ^ count - 1)) set.0 (λ k.
    bit_at_and set.0 (2 ^ count - 1) k
    ∙ in_part (bit_at set.0 k) (bit_at (2 ^ count - 1) k) (bit_at-lt set.0 k) (λ there. bit_at_ones count k (below k (has_bit k set there)))) in
    let least = and_le_r set.0 (2 ^ count - 1) in
    let some : 0 < 2 ^ count = pow_pos count in
    lt-ltb set.0 (2 ^ count) (omega arith)

pub nobody_within : (count : ℕ) → IsTrue (is_within count nobody)
nobody_within count = within_from count nobody (λ k there. let no : false ≡ true = sym (has_nobody k) ∙ there in absurd (false≢true no))

pub all_of_within : (count : ℕ) → IsTrue (is_within count (all_of count))
all_of_within count = within_from count (all_of count) (λ k there. ltb-true k count (sym (has_of_all count k) ∙ there))

pub joined_within : (count : ℕ) (set other : ProfileSet) → IsTrue (is_within count set) → IsTrue (is_within count other) → IsTrue (is_within count (joined set other))
joined_within count set other within other_within = within_from count (joined set other) (λ k there.
    elim (or_cases (has k set) (has k other) (sym (has_joined set other k) ∙ there)) [
      | inl in_set ↦ within_below count k set within in_set
      | inr in_other ↦ within_below count k other other_within in_other
    ])

pub without_within : (count : ℕ) (set other : ProfileSet) → IsTrue (is_within count set) → IsTrue (is_within count (without set other))
without_within count set other within = within_from count (without set other) (λ k there.
    within_below count k set within (and_parts (has k set) (not (has k other)) (sym (has_without set other k) ∙ there)).0)

-- ---- what follows for every set

pub joined_nobody : (set : ProfileSet) → joined set nobody ≡ set
joined_nobody set = same_set (joined set nobody) set (λ k. has_joined set nobody k ∙ ap (λ (t : Bool). has k set || t) (has_nobody k) ∙ or_false (has k set))

pub nobody_joined : (set : ProfileSet) → joined nobody set ≡ set
nobody_joined set = same_set (joined nobody set) set (λ k. has_joined nobody set k ∙ ap (λ (t : Bool). t || has k set) (has_nobody k))

pub without_nobody : (set : ProfileSet) → without set nobody ≡ set
without_nobody set = same_set (without set nobody) set (λ k. has_without set nobody k ∙ ap (λ (t : Bool). has k set && not t) (has_nobody k) ∙ and_true (has k set))

pub nobody_without : (set : ProfileSet) → without nobody set ≡ nobody
nobody_without set = same_set (without nobody set) nobody (λ k.
    has_without nobody set k ∙ ap (λ (t : Bool). t && not (has k set)) (has_nobody k) ∙ sym (has_nobody k))

pub without_itself : (set : ProfileSet) → without set set ≡ nobody
without_itself set = same_set (without set set) nobody (λ k. has_without set set k ∙ and_not (has k set) ∙ sym (has_nobody k))

pub joined_itself : (set : ProfileSet) → joined set set ≡ set
joined_itself set = same_set (joined set set) set (λ k. has_joined set set k ∙ or_same (has k set))

pub has_all_of_itself : (set : ProfileSet) → IsTrue (has_all_of set set)
has_all_of_itself set = all_from set set (λ k there. there)

pub has_all_of_nobody : (set : ProfileSet) → IsTrue (has_all_of set nobody)
has_all_of_nobody set = all_from set nobody (λ k there. let no : false ≡ true = sym (has_nobody k) ∙ there in absurd (false≢true no))

-- who joins what has everybody changes nothing
pub joined_all : (set other : ProfileSet) → IsTrue (has_all_of set other) → joined set other ≡ set
joined_all set other all = same_set (joined set other) set (λ k. has_joined set other k ∙ or_implied (has k set) (has k other) (all_have set other all k))

-- who takes nobody away changes nothing
pub without_none : (set other : ProfileSet) → (¬ IsTrue (has_any_of set other)) → without set other ≡ set
without_none set other none = same_set (without set other) set (λ k. has_without set other k ∙ and_apart (has k set) (has k other) (none_have set other none k))
