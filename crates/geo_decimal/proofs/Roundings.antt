-- Digits that are cut behind some of them and rounded by the next give the value of a number.
use Rattle.std.proofs.Common.{◌≡◌, ℕ, zero, suc, ◌+◌, ◌-◌, ◌*◌, ◌^◌, ◌<◌, ◌≤◌, ◌⊎◌, inl, inr, cond, nat_le, List, [], ◌∷◌, ◌++◌, length, take, slice_index_or, Option, Some, None, IfSome, IfNone, min, refl, sym, ap, ◌∙◌, subst, arith}
use Rattle.std.specs.Option.{SomeIff}
use Rattle.std.specs.Char.{digit_value}
use Rattle.std.specs.Str.Parse.{AllDigits, digits_value}
use Rattle.std.proofs.lemmas.Bool.{cases_lt, le-leb, lt-leb, cases_eq}
use Rattle.std.proofs.lemmas.Int.Digits.{digits_value-lt}
use Rattle.std.proofs.lemmas.Nat.{pow-add}
use Rattle.std.proofs.Math.Nat.{mul-le-mul_right, mul-le-mul_left, one-le-pow, pow-suc}
use Rattle.geo_decimal.specs.Value.{IsGreatest, IsRounded}
use Rattle.geo_decimal.specs.Rounding.{front_value, rounded_at}
use Rattle.geo_decimal.proofs.DigitValues.{after_append, after_weight}

-- ---- the next digit alone decides

next_digit_decides : (d a x r p q : ℕ) → d ≡ a * (10 * p) + (x * p + r) → r < p → x ≤ 9 → ((5 ≤ x) × (q ≡ a + 1)) ⊎ ((x < 5) × (q ≡ a)) → IsGreatest (λ n. 2 * n * (10 * p) ≤ 2 * d + 10 * p) q
next_digit_decides d a x r p q e small nine (inl (up, is)) =
    let five : 5 * p ≤ x * p = mul-le-mul_right p up in
    let most : x * p ≤ 9 * p = mul-le-mul_right p nine in
    let at : q * p ≡ (a + 1) * p = ap (λ n. n * p) is in
    record {
      has = omega (arith, e, five, at);
      greatest = λ n below. go n below (cases_lt q n);
    }
  where
    go : (n : ℕ) → 2 * n * (10 * p) ≤ 2 * d + 10 * p → (q < n) ⊎ (n ≤ q) → n ≤ q
    go n below (inr l) = l
    go n below (inl l) =
        let m : (a + 2) * p ≤ n * p = mul-le-mul_right p (omega (arith, is, l)) in
        let most : x * p ≤ 9 * p = mul-le-mul_right p nine in
        absurd (omega (arith, m, most, e, small, below))
next_digit_decides d a x r p q e small nine (inr (down, is)) =
    let at : q * p ≡ a * p = ap (λ n. n * p) is in
    record {
      has = omega (arith, e, at);
      greatest = λ n below. go n below (cases_lt q n);
    }
  where
    go : (n : ℕ) → 2 * n * (10 * p) ≤ 2 * d + 10 * p → (q < n) ⊎ (n ≤ q) → n ≤ q
    go n below (inr l) = l
    go n below (inl l) =
        let m : (a + 1) * p ≤ n * p = mul-le-mul_right p (omega (arith, is, l)) in
        let most : x * p ≤ 4 * p = mul-le-mul_right p (omega (arith, down)) in
        absurd (omega (arith, m, most, e, small, below))

-- ---- a list at a place

take_all : (ds : List ℕ) (k : ℕ) → length ds ≤ k → take k ds ≡ ds
take_all [] zero h = refl
take_all [] (suc k) h = refl
take_all (c ∷ cs) zero h = absurd (omega (arith, h))
take_all (c ∷ cs) (suc k) h = ap (λ l. c ∷ l) (take_all cs k (omega (arith, h)))

nothing_at : (ds : List ℕ) (k : ℕ) → length ds ≤ k → slice_index_or ds k 48 ≡ 48
nothing_at [] zero h = refl
nothing_at [] (suc k) h = refl
nothing_at (c ∷ cs) zero h = absurd (omega (arith, h))
nothing_at (c ∷ cs) (suc k) h = nothing_at cs k (omega (arith, h))

-- a list is what stands before a place, what stands at it and what stands after
record Split (ds : List ℕ) (k : ℕ) : Type 0 where
  after : List ℕ
  whole : ds ≡ take k ds ++ (slice_index_or ds k 48 ∷ after)
  len : length ds ≡ k + suc (length after)
  digit : digit_value (slice_index_or ds k 48) < 10
  digits : AllDigits 10 after

split_at : (ds : List ℕ) (k : ℕ) → AllDigits 10 ds → k < length ds → Split ds k
split_at [] k h l = absurd (omega (arith, l))
split_at (c ∷ cs) zero h l = record { after = cs; whole = refl; len = omega arith; digit = h.0; digits = h.1 }
split_at (c ∷ cs) (suc k) h l =
    let s = split_at cs k h.1 (omega (arith, l)) in
    record { after = s.after; whole = ap (λ l. c ∷ l) s.whole; len = omega (arith, s.len); digit = s.digit; digits = s.digits }

digit_tens : (c : ℕ) → digit_value c < 10 → (48 ≤ c) × (c ≤ 57) × (digit_value c + 48 ≡ c)
digit_tens c h = grind (arith, h)

-- ---- the value

pub past_end : (ds : List ℕ) (k : ℕ) → length ds ≤ k → rounded_at ds k ≡ digits_value 10 ds * 10 ^ (k - length ds)
past_end ds k h =
    let none : ◌≡◌ {A = ℕ} (cond (nat_le 53 (slice_index_or ds k 48)) 1 0) 0 = ap (λ c. cond (nat_le 53 c) 1 0) (nothing_at ds k h) in
    let all : front_value ds k ≡ digits_value 10 ds * 10 ^ (k - length ds) = ap (λ l. digits_value 10 l * 10 ^ (k - length ds)) (take_all ds k h) in
    omega (arith, none, all)

inside : (ds : List ℕ) (k : ℕ) → AllDigits 10 ds → k < length ds → IsGreatest (λ n. 2 * n * 10 ^ (length ds - k) ≤ 2 * digits_value 10 ds + 10 ^ (length ds - k)) (rounded_at ds k)
inside ds k h l =
    let s = split_at ds k h l in
    let c = slice_index_or ds k 48 in
    let a = digits_value 10 (take k ds) in
    let p = 10 ^ length s.after in
    let t = digit_tens c s.digit in
    let power : 10 ^ (length ds - k) ≡ 10 * p =
    let e : length ds - k ≡ suc (length s.after) = omega (arith, s.len) in ap (λ n. 10 ^ n) e ∙ pow-suc 10 (length s.after) ∙ omega arith in
    let front : front_value ds k ≡ a =
    let z : k - length ds ≡ 0 = omega arith in ap (λ n. a * 10 ^ n) z ∙ omega arith in
    let value : digits_value 10 ds ≡ a * (10 * p) + (digit_value c * p + digits_value 10 s.after) =
    let w = after_weight a (c ∷ s.after) in
    let v = after_weight (0 * 10 + digit_value c) s.after in
    let e : a * 10 ^ suc (length s.after) ≡ a * (10 * p) = let q : 10 ^ suc (length s.after) ≡ 10 * p = pow-suc 10 (length s.after) ∙ omega arith in ap (λ n. a * n) q in
    ap (digits_value 10) s.whole ∙ after_append 0 (take k ds) (c ∷ s.after) ∙ omega (arith, w, v, e) in
    let small : digits_value 10 s.after < p = digits_value-lt 10 s.after s.digits in
    let decides = next_digit_decides (digits_value 10 ds) a (digit_value c) (digits_value 10 s.after) p (rounded_at ds k) value small (omega (arith, s.digit)) (side c a (front_value ds k) front t.2 (cases_lt c 53)) in
    subst (λ n. IsGreatest (λ m. 2 * m * n ≤ 2 * digits_value 10 ds + n) (rounded_at ds k)) (sym power) decides
  where
    side : (c a f : ℕ) → f ≡ a → digit_value c + 48 ≡ c → (c < 53) ⊎ (53 ≤ c) → ((5 ≤ digit_value c) × (f + cond (nat_le 53 c) 1 0 ≡ a + 1)) ⊎ ((digit_value c < 5) × (f + cond (nat_le 53 c) 1 0 ≡ a))
    side c a f e v (inl l) = inr (omega (arith, v, l), ap (λ b. f + cond b 1 0) (lt-leb 53 c l) ∙ omega (arith, e))
    side c a f e v (inr l) = inl (omega (arith, v, l), ap (λ b. f + cond b 1 0) (le-leb 53 c l) ∙ omega (arith, e))

pub kept_rounded : (ds : List ℕ) (up down kept : ℕ) → AllDigits 10 ds → kept + down ≡ length ds + up → IsRounded (digits_value 10 ds) up down (rounded_at ds kept)
kept_rounded ds up down kept h e = record {
  exact = λ l. let k : kept - length ds ≡ up - down = omega (arith, e, l) in past_end ds kept (omega (arith, e, l)) ∙ ap (λ n. digits_value 10 ds * 10 ^ n) k;
  nearest = λ l.
      let k : length ds - kept ≡ down - up = omega (arith, e, l) in
      subst (λ n. IsGreatest (λ m. 2 * m * 10 ^ n ≤ 2 * digits_value 10 ds + 10 ^ n) (rounded_at ds kept)) k (inside ds kept h (omega (arith, e, l)));
}

-- where even the first digit stands below the tenths, the value is 0
pub nothing_kept : (ds : List ℕ) (up down : ℕ) → AllDigits 10 ds → length ds + up < down → IsRounded (digits_value 10 ds) up down 0
nothing_kept ds up down h far = record {
  exact = λ l. absurd (omega (arith, l, far));
  nearest = λ l. record {
    has = omega arith;
    greatest = λ p below. go p below (cases_lt 0 p);
  };
}
  where
    go : (p : ℕ) → 2 * p * 10 ^ (down - up) ≤ 2 * digits_value 10 ds + 10 ^ (down - up) → (0 < p) ⊎ (p ≤ 0) → p ≤ 0
    go p below (inr l) = l
    go p below (inl l) =
        let small = digits_value-lt 10 ds h in
        let power : 10 ^ (down - up) ≡ 10 ^ suc (length ds) * 10 ^ (down - up - suc (length ds)) =
        let e : down - up ≡ suc (length ds) + (down - up - suc (length ds)) = omega (arith, far) in ap (λ n. 10 ^ n) e ∙ pow-add 10 (suc (length ds)) (down - up - suc (length ds)) in
        let one : 1 ≤ 10 ^ (down - up - suc (length ds)) = one-le-pow (down - up - suc (length ds)) 10 (omega arith) in
        let m : 10 ^ suc (length ds) * 1 ≤ 10 ^ suc (length ds) * 10 ^ (down - up - suc (length ds)) = mul-le-mul_left (10 ^ suc (length ds)) one in
        let ten = pow-suc 10 (length ds) in
        let g : 1 * 10 ^ (down - up) ≤ p * 10 ^ (down - up) = mul-le-mul_right (10 ^ (down - up)) l in
        absurd (omega (arith, small, power, m, ten, g, below))

-- ---- an exponent that was read capped

large : (v z : ℕ) → 0 < v → 12 ≤ z → 180000000000 < v * 10 ^ z
large v z h l =
    let power : 10 ^ z ≡ 10 ^ 12 * 10 ^ (z - 12) = let e : z ≡ 12 + (z - 12) = omega (arith, l) in ap (λ n. 10 ^ n) e ∙ pow-add 10 12 (z - 12) in
    let one : 1 ≤ 10 ^ (z - 12) = one-le-pow (z - 12) 10 (omega arith) in
    let m : 1 * 10 ^ z ≤ v * 10 ^ z = mul-le-mul_right (10 ^ z) h in
    omega (arith, power, one, m)

-- two places far behind the last digit give one answer
record Alike (s t : ℕ) : Type 0 where
  within : s ≤ 180000000000 → t ≡ s
  past : 180000000000 < s → 180000000000 < t

far_alike : (ds : List ℕ) (k l : ℕ) → length ds + 12 ≤ k → length ds + 12 ≤ l → Alike (rounded_at ds k) (rounded_at ds l)
far_alike ds k l f g = go (cases_eq (digits_value 10 ds) 0)
  where
    go : (digits_value 10 ds ≡ 0) ⊎ (digits_value 10 ds ≡ 0 → ⊥) → Alike (rounded_at ds k) (rounded_at ds l)
    go (inl none) =
        let a : rounded_at ds k ≡ 0 = past_end ds k (omega (arith, f)) ∙ ap (λ v. v * 10 ^ (k - length ds)) none ∙ omega arith in
        let b : rounded_at ds l ≡ 0 = past_end ds l (omega (arith, g)) ∙ ap (λ v. v * 10 ^ (l - length ds)) none ∙ omega arith in
        record { within = λ h. b ∙ sym a; past = λ h. absurd (omega (arith, a, h)) }
    go (inr some) =
        let a = large (digits_value 10 ds) (k - length ds) (omega (arith, some)) (omega (arith, f)) in
        let b = large (digits_value 10 ds) (l - length ds) (omega (arith, some)) (omega (arith, g)) in
        let x = past_end ds k (omega (arith, f)) in
        let y = past_end ds l (omega (arith, g)) in
        record { within = λ h. absurd (omega (arith, a, x, h)); past = λ h. omega (arith, b, y) }

capped_alike : (ds : List ℕ) (k most : ℕ) → length ds + 12 ≤ most → Alike (rounded_at ds (min k most)) (rounded_at ds k)
capped_alike ds k most h = go (cases_lt most k)
  where
    go : (most < k) ⊎ (k ≤ most) → Alike (rounded_at ds (min k most)) (rounded_at ds k)
    go (inr l) = let e : k ≡ min k most = omega (arith, l) in record { within = λ h. ap (rounded_at ds) e; past = λ p. subst (λ n. 180000000000 < rounded_at ds n) (sym e) p }
    go (inl l) = far_alike ds (min k most) k (omega (arith, l, h)) (omega (arith, l, h))

abbrev pub Found : ℕ → ℕ → ℕ → Option ℕ → Type 0
Found d up down r = IfSome r (λ q. IsRounded d up down q × (q ≤ 180000000000))

abbrev pub NotFound : ℕ → ℕ → ℕ → Option ℕ → Type 0
NotFound d up down r = IfNone r ((q : ℕ) × IsRounded d up down q × (180000000000 < q))

settled : (d up down s t : ℕ) (r : Option ℕ) → IsRounded d up down t → Alike s t → SomeIff r (s ≤ 180000000000) s → Found d up down r × NotFound d up down r
settled d up down s t (Some q) h a (small, e) = ((subst (IsRounded d up down) (a.within small ∙ sym e) h, omega (arith, small, e)), tt)
settled d up down s t None h a past = (tt, (t, h, a.past (omega (arith, past))))

-- what `rounded` answers at a capped place
pub rounded_capped : (ds : List ℕ) (up down kept most : ℕ) (r : Option ℕ) → AllDigits 10 ds → length ds + 12 ≤ most → kept + down ≡ length ds + up → SomeIff r (rounded_at ds (min kept most) ≤ 180000000000) (rounded_at ds (min kept most)) → Found (digits_value 10 ds) up down r × NotFound (digits_value 10 ds) up down r
rounded_capped ds up down kept most r h l e s = settled (digits_value 10 ds) up down (rounded_at ds (min kept most)) (rounded_at ds kept) r (kept_rounded ds up down kept h e) (capped_alike ds kept most l) s
