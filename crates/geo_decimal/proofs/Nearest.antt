-- The two cases of rounding are 'nearest, ties away from zero'.
use Rattle.std.proofs.Common.{◌≡◌, ℕ, ◌+◌, ◌-◌, ◌*◌, ◌^◌, ◌<◌, ◌≤◌, ◌⊎◌, inl, inr, ◌↔◌, sym, ap, ◌∙◌, subst, arith}
use Rattle.std.proofs.lemmas.Bool.{cases_lt}
use Rattle.std.proofs.lemmas.Nat.{pow-add}
use Rattle.std.proofs.Math.Nat.{mul-le-mul_right, le_of_mul-le-mul_right, one-le-pow}
use Rattle.geo_decimal.specs.Value.{IsGreatest, IsRounded}
use Rattle.geo_decimal.specs.Laws.{distance, IsNearest}

pub ten_power : (n : ℕ) → 0 < 10 ^ n
ten_power n = let h : 1 ≤ 10 ^ n = one-le-pow n 10 (omega arith) in omega (arith, h)

-- a power of a greater exponent is a multiple
power_apart : (a b : ℕ) → a ≤ b → 10 ^ b ≡ 10 ^ a * 10 ^ (b - a)
power_apart a b h = let e : b ≡ a + (b - a) = omega arith in ap (λ n. 10 ^ n) e ∙ pow-add 10 a (b - a)

-- a distance grows with its unit
distance_scaled : (a b u : ℕ) → distance (a * u) (b * u) ≡ distance a b * u
distance_scaled a b u = go (cases_lt a b)
  where
    go : (a < b) ⊎ (b ≤ a) → distance (a * u) (b * u) ≡ distance a b * u
    go (inl h) =
        let e : b ≡ a + (b - a) = omega arith in
        let m : b * u ≡ (a + (b - a)) * u = ap (λ x. x * u) e in
        let z : a - b ≡ 0 = omega arith in
        let p : distance a b ≡ b - a = omega arith in
        let l : distance (a * u) (b * u) ≡ (b - a) * u = omega (arith, m) in
        l ∙ sym (ap (λ x. x * u) p)
    go (inr h) =
        let e : a ≡ b + (a - b) = omega arith in
        let m : a * u ≡ (b + (a - b)) * u = ap (λ x. x * u) e in
        let p : distance a b ≡ a - b = omega arith in
        let l : distance (a * u) (b * u) ≡ (a - b) * u = omega (arith, m) in
        l ∙ sym (ap (λ x. x * u) p)

-- the fraction may be shortened
shorten : (num den u q : ℕ) → 0 < u → IsNearest (num * u) (den * u) q ↔ IsNearest num den q
shorten num den u q pos = (to, from)
  where
    across : q * (den * u) ≡ (q * den) * u
    across = omega arith

    scaled : distance (q * (den * u)) (num * u) ≡ distance (q * den) num * u
    scaled = ap (λ x. distance x (num * u)) across ∙ distance_scaled (q * den) num u

    twice : 2 * distance (q * (den * u)) (num * u) ≡ (2 * distance (q * den) num) * u
    twice = let m : 2 * distance (q * (den * u)) (num * u) ≡ 2 * (distance (q * den) num * u) = ap (λ x. 2 * x) scaled in m ∙ omega arith

    to : IsNearest (num * u) (den * u) q → IsNearest num den q
    to h = record {
      close = let b : (2 * distance (q * den) num) * u ≤ den * u = subst (λ x. x ≤ den * u) twice h.close in le_of_mul-le-mul_right b pos;
      tie = λ t. let b : num * u ≤ q * (den * u) = h.tie (twice ∙ ap (λ x. x * u) t) in
          let b' : num * u ≤ (q * den) * u = subst (λ x. num * u ≤ x) across b in le_of_mul-le-mul_right b' pos;
    }

    from : IsNearest num den q → IsNearest (num * u) (den * u) q
    from h = record {
      close = let b : (2 * distance (q * den) num) * u ≤ den * u = mul-le-mul_right u h.close in subst (λ x. x ≤ den * u) (sym twice) b;
      tie = λ t. let s : (2 * distance (q * den) num) * u ≡ den * u = sym twice ∙ t in
          let l : 2 * distance (q * den) num ≤ den = le_of_mul-le-mul_right (omega (arith, s)) pos in
          let g : den ≤ 2 * distance (q * den) num = le_of_mul-le-mul_right (omega (arith, s)) pos in
          let b : num * u ≤ (q * den) * u = mul-le-mul_right u (h.tie (omega (arith, l, g))) in
          subst (λ x. num * u ≤ x) (sym across) b;
    }

-- over the denominator 1 the nearest number is the fraction itself
whole : (n q : ℕ) → IsNearest n 1 q ↔ (q ≡ n)
whole n q = (λ h. omega (arith, h.close), λ e. record { close = omega (arith, e); tie = λ t. omega (arith, e) })

-- the greatest whole number that is at most one half above
half_up : (d t q : ℕ) → 0 < t → IsNearest d t q ↔ IsGreatest (λ p. 2 * p * t ≤ 2 * d + t) q
half_up d t q pos = (to, from)
  where
    to : IsNearest d t q → IsGreatest (λ p. 2 * p * t ≤ 2 * d + t) q
    to h = record {
      has = omega (arith, h.close);
      greatest = λ p below. go p below (cases_lt q p);
    }
      where
        go : (p : ℕ) → 2 * p * t ≤ 2 * d + t → (q < p) ⊎ (p ≤ q) → p ≤ q
        go p below (inr l) = l
        go p below (inl l) =
            let m : (q + 1) * t ≤ p * t = mul-le-mul_right t (omega arith) in
            let tied : 2 * distance (q * t) d ≡ t = omega (arith, m, below, h.close) in
            let up : d ≤ q * t = h.tie tied in
            absurd (omega (arith, m, below, up, pos))

    from : IsGreatest (λ p. 2 * p * t ≤ 2 * d + t) q → IsNearest d t q
    from h =
        let above : (q + 1 ≤ q → ⊥) = λ l. omega arith in
        let next : 2 * d + t < 2 * (q + 1) * t = go (cases_lt (2 * d + t) (2 * (q + 1) * t)) in
        record {
          close = omega (arith, h.has, next);
          tie = λ e. omega (arith, e, h.has, next);
        }
      where
        go : (2 * d + t < 2 * (q + 1) * t) ⊎ (2 * (q + 1) * t ≤ 2 * d + t) → 2 * d + t < 2 * (q + 1) * t
        go (inl l) = l
        go (inr l) = absurd (omega (arith, h.greatest (q + 1) l))

-- both cases at once
pub rounded_nearest : (d up down q : ℕ) → IsRounded d up down q ↔ IsNearest (d * 10 ^ up) (10 ^ down) q
rounded_nearest d up down q = go (cases_lt up down)
  where
    go : (up < down) ⊎ (down ≤ up) → IsRounded d up down q ↔ IsNearest (d * 10 ^ up) (10 ^ down) q
    go (inl h) =
        let e : 10 ^ down ≡ 10 ^ (down - up) * 10 ^ up = power_apart up down (omega arith) ∙ omega arith in
        let s = shorten d (10 ^ (down - up)) (10 ^ up) q (ten_power up) in
        let g = half_up d (10 ^ (down - up)) q (ten_power (down - up)) in (
          λ r. subst (λ x. IsNearest (d * 10 ^ up) x q) (sym e) (s.1 (g.1 (r.nearest h))),
          λ n. record { exact = λ l. absurd (omega arith); nearest = λ l. g.0 (s.0 (subst (λ x. IsNearest (d * 10 ^ up) x q) e n)) },
        )
    go (inr h) =
        let a : d * 10 ^ up ≡ (d * 10 ^ (up - down)) * 10 ^ down = ap (λ x. d * x) (power_apart down up h) ∙ omega arith in
        let b : 10 ^ down ≡ 1 * 10 ^ down = omega arith in
        let s = shorten (d * 10 ^ (up - down)) 1 (10 ^ down) q (ten_power down) in
        let w = whole (d * 10 ^ (up - down)) q in (
          λ r. subst (λ x. IsNearest x (10 ^ down) q) (sym a) (subst (λ x. IsNearest ((d * 10 ^ (up - down)) * 10 ^ down) x q) (sym b) (s.1 (w.1 (r.exact h)))),
          λ n. record { exact = λ l. w.0 (s.0 (subst (λ x. IsNearest ((d * 10 ^ (up - down)) * 10 ^ down) x q) b (subst (λ x. IsNearest x (10 ^ down) q) a n))); nearest = λ l. absurd (omega arith) },
        )
