-- The three forms of an escape: one byte, a code unit, or a pair of them.
use Rattle.std.proofs.Common.{◌≡◌, ℕ, ◌+◌, ◌-◌, ◌*◌, ◌<◌, ◌≤◌, Bool, true, false, cond, ◌&&◌, ◌||◌, ◌==◌, ◌∙◌, List, [], ◌∷◌, Option, Some, None, option_and_then, nat_lt, nat_le, refl, sym, ap, ap₂, subst, arith}
use Rattle.std.proofs.lemmas.Bool.{eqb-true, leb-true, ltb-true, and_parts}
use Rattle.std.specs.Char.{IsScalar, digit_value, is_digit}
use Rattle.std.proofs.lemmas.Option.{same_Some}
use Rattle.exact_json.specs.Strings.{short_escape, is_high, is_low, AreHex}
use Rattle.exact_json.specs.StringReading.{code_unit, low_next, after_high, unit_escape, escape}
use Rattle.exact_json.proofs.Texts.{by_bool, then_some, tested, some_of, none_some, low_alone, escape_nothing, escape_u, escape_short}

-- the digits in front
Unit4 : List ℕ → ℕ → Type 0
Unit4 t u = (a b c d : ℕ) × (w : List ℕ) × (t ≡ a ∷ b ∷ c ∷ d ∷ w) × AreHex a b c d × (u < 65536)

below : (a b c d : ℕ) → digit_value a < 16 → digit_value b < 16 → digit_value c < 16 → digit_value d < 16 → digit_value a * 4096 + digit_value b * 256 + digit_value c * 16 + digit_value d < 65536
below a b c d p q r s = lemma (digit_value a) (digit_value b) (digit_value c) (digit_value d) p q r s
  where
    lemma : (a b c d : ℕ) → a < 16 → b < 16 → c < 16 → d < 16 → a * 4096 + b * 256 + c * 16 + d < 65536
    lemma a b c d p q r s = omega (arith, p, q, r, s)

unit_front : (t : List ℕ) (u : ℕ) → code_unit t ≡ Some u → Unit4 t u
unfolding code_unit Unit4
unit_front [] u h = absurd (none_some h)
unit_front (a ∷ []) u h = absurd (none_some h)
unit_front (a ∷ b ∷ []) u h = absurd (none_some h)
unit_front (a ∷ b ∷ c ∷ []) u h = absurd (none_some h)
unit_front (a ∷ b ∷ c ∷ d ∷ w) u h =
    let t = tested (is_digit a 16 && is_digit b 16 && is_digit c 16 && is_digit d 16) (Some (digit_value a * 4096 + digit_value b * 256 + digit_value c * 16 + digit_value d)) u h in
    let p = and_parts (is_digit a 16 && is_digit b 16 && is_digit c 16) (is_digit d 16) t.0 in
    let q = and_parts (is_digit a 16 && is_digit b 16) (is_digit c 16) p.0 in
    let r = and_parts (is_digit a 16) (is_digit b 16) q.0 in
    let value = same_Some _ u t.1 in
    (a, b, c, d, w, refl, (r.0, r.1, q.1, p.1), subst (λ n. n < 65536) value (below a b c d (ltb-true (digit_value a) 16 r.0) (ltb-true (digit_value b) 16 r.1) (ltb-true (digit_value c) 16 q.1) (ltb-true (digit_value d) 16 p.1)))

short_value : (x c : ℕ) → short_escape x ≡ Some c → (x < 128) × (c < 128)
unfolding short_escape
short_value x c h = by_bool ((x == 34) || (x == 92) || (x == 47))
    (λ e.
    let same = same_Some x c (step ((x == 34) || (x == 92) || (x == 47)) true _ _ _ e h) in
    let low : x < 128 = quotes x e in
    (low, subst (λ n. n < 128) same low))
    (λ e. let h1 = step ((x == 34) || (x == 92) || (x == 47)) false _ _ _ e h in
    one x 98 8 c _ (omega arith) (omega arith) (λ h2. one x 102 12 c _ (omega arith) (omega arith) (λ h3. one x 110 10 c _ (omega arith) (omega arith) (λ h4. one x 114 13 c _ (omega arith) (omega arith) (λ h5. one x 116 9 c _ (omega arith) (omega arith) (λ h6. absurd (none_some h6)) h5) h4) h3) h2) h1)
  where
    step : (b d : Bool) (p q r : Option ℕ) → b ≡ d → cond b p q ≡ r → cond d p q ≡ r
    step b d p q r e h = ap (λ z. cond z p q) (sym e) ∙ h

    quotes : (x : ℕ) → ((x == 34) || (x == 92) || (x == 47)) ≡ true → x < 128
    quotes x e = grind (arith, e)

    one : (x k v c : ℕ) (o : Option ℕ) → k < 128 → v < 128 → (o ≡ Some c → (x < 128) × (c < 128)) → cond (x == k) (Some v) o ≡ Some c → (x < 128) × (c < 128)
    one x k v c o kl vl f h = by_bool (x == k)
        (λ e. (subst (λ n. n < 128) (sym (eqb-true x k e)) kl, subst (λ n. n < 128) (same_Some v c (step (x == k) true _ _ _ e h)) vl))
        (λ e. f (step (x == k) false _ _ _ e h))

-- the escape of a low surrogate in front
Low : List ℕ → ℕ → Type 0
Low t l = (a b c d : ℕ) × (w : List ℕ) × (t ≡ 92 ∷ 117 ∷ a ∷ b ∷ c ∷ d ∷ w) × AreHex a b c d × (is_low l ≡ true)

low_front : (t : List ℕ) (l : ℕ) → low_next t ≡ Some l → Low t l
unfolding Low Unit4
low_front [] l h = absurd (none_some h)
low_front (x ∷ []) l h = absurd (low_alone x l h)
low_front (x ∷ y ∷ v) l h =
    let q = tested ((x == 92) && (y == 117)) (option_and_then (λ u. cond (is_low u) (Some u) None) (code_unit v)) l h in
    let p = and_parts (x == 92) (y == 117) q.0 in
    let t = then_some (λ u. cond (is_low u) (Some u) None) (code_unit v) l q.1 in
    let s = tested (is_low t.0) (Some t.0) l t.2 in
    let u = unit_front v t.0 t.1 in
    (u.0, u.1, u.2, u.3, u.4, ap₂ (λ m n. m ∷ n ∷ v) (eqb-true x 92 p.0) (eqb-true y 117 p.1) ∙ ap (λ z. 92 ∷ 117 ∷ z) u.5, u.6, subst (λ n. is_low n ≡ true) (same_Some t.0 l s.1) s.0)

plain_scalar : (u : ℕ) → u < 65536 → is_high u ≡ false → is_low u ≡ false → IsScalar u
plain_scalar u b h l = grind (arith, b, h, l)

pair_scalar : (u l : ℕ) → is_high u ≡ true → is_low l ≡ true → IsScalar (0x10000 + (u - 0xd800) * 1024 + (l - 0xdc00))
pair_scalar u l h g =
    let p = and_parts (nat_le 0xd800 u) (nat_lt u 0xdc00) h in
    let q = and_parts (nat_le 0xdc00 l) (nat_lt l 0xe000) g in
    let ulow = leb-true 0xd800 u p.0 in
    let uhigh = ltb-true u 0xdc00 p.1 in
    let llow = leb-true 0xdc00 l q.0 in
    let lhigh = ltb-true l 0xe000 q.1 in
    in_range (0x10000 + (u - 0xd800) * 1024 + (l - 0xdc00)) (omega (arith, ulow, llow)) (omega (arith, ulow, uhigh, llow, lhigh))
  where
    in_range : (n : ℕ) → 65536 ≤ n → n < 1114112 → IsScalar n
    in_range n a b = grind (arith, a, b)

ascii_scalar : (c : ℕ) → c < 128 → IsScalar c
ascii_scalar c h = grind (arith, h)

-- a claim on the text behind a backslash, and on its character and how many bytes spell that, holds if it holds of each form
module _ (C : List ℕ → ℕ × ℕ → Type 0)
    (one : (x : ℕ) (w : List ℕ) (c : ℕ) → short_escape x ≡ Some c → x < 128 → IsScalar c → C (x ∷ w) (c, 1))
    (unit : (a b c d : ℕ) (w : List ℕ) (u : ℕ) → AreHex a b c d → IsScalar u → C (117 ∷ a ∷ b ∷ c ∷ d ∷ w) (u, 5))
    (two : (a b c d e f g h : ℕ) (w : List ℕ) (u : ℕ) → AreHex a b c d → AreHex e f g h → IsScalar u → C (117 ∷ a ∷ b ∷ c ∷ d ∷ 92 ∷ 117 ∷ e ∷ f ∷ g ∷ h ∷ w) (u, 11)) where
  high_form : (a b c d : ℕ) (w : List ℕ) (u : ℕ) (o : Option ℕ) (e : ℕ × ℕ) → AreHex a b c d → is_high u ≡ true → low_next w ≡ o → after_high u o ≡ e → C (117 ∷ a ∷ b ∷ c ∷ d ∷ w) e
  unfolding Low
  high_form a b c d w u None e hex high is same = subst (C (117 ∷ a ∷ b ∷ c ∷ d ∷ w)) same (unit a b c d w 0xfffd hex refl)
  high_form a b c d w u (Some l) e hex high is same =
      let p = low_front w l is in
      subst (C (117 ∷ a ∷ b ∷ c ∷ d ∷ w)) same (subst (λ z. C (117 ∷ a ∷ b ∷ c ∷ d ∷ z) (after_high u (Some l))) (sym p.5)
      (two a b c d p.0 p.1 p.2 p.3 p.4 (0x10000 + (u - 0xd800) * 1024 + (l - 0xdc00)) hex p.6 (pair_scalar u l high p.7)))

  unit_form : (a b c d : ℕ) (w : List ℕ) (u : ℕ) (e : ℕ × ℕ) → AreHex a b c d → u < 65536 → unit_escape (a ∷ b ∷ c ∷ d ∷ w) u ≡ e → C (117 ∷ a ∷ b ∷ c ∷ d ∷ w) e
  unit_form a b c d w u e hex bound same = by_bool (is_high u)
      (λ h. high_form a b c d w u (low_next w) e hex h refl (pick (is_high u) true _ _ h same))
      (λ h. let g = pick (is_high u) false (after_high u (low_next w)) _ h same in by_bool (is_low u)
      (λ l. subst (C (117 ∷ a ∷ b ∷ c ∷ d ∷ w)) (pick (is_low u) true (0xfffd, 5) (u, 5) l g) (unit a b c d w 0xfffd hex refl))
      (λ l. subst (C (117 ∷ a ∷ b ∷ c ∷ d ∷ w)) (pick (is_low u) false (0xfffd, 5) (u, 5) l g) (unit a b c d w u hex (plain_scalar u bound h l))))
    where
      pick : (b z : Bool) (p q : ℕ × ℕ) → b ≡ z → cond b p q ≡ e → cond z p q ≡ e
      pick b z p q s h = ap (λ y. cond y p q) (sym s) ∙ h

  pub escape_forms : (xs : List ℕ) (e : ℕ × ℕ) → escape xs ≡ Some e → C xs e
  unfolding Unit4
  escape_forms [] e h = absurd (none_some (sym escape_nothing ∙ h))
  escape_forms (y ∷ v) e h = by_bool (y == 117)
      (λ q.
      let m = some_of (unit_escape v) (code_unit v) e (sym (escape_u y v q) ∙ h) in
      let u = unit_front v m.0 m.1 in
      let form = unit_form u.0 u.1 u.2 u.3 u.4 m.0 e u.6 u.7 (ap (λ z. unit_escape z m.0) (sym u.5) ∙ m.2) in
      subst (λ n. C (n ∷ v) e) (sym (eqb-true y 117 q)) (subst (λ z. C (117 ∷ z) e) (sym u.5) form))
      (λ q.
      let m = some_of (λ c. (c, 1)) (short_escape y) e (sym (escape_short y v q) ∙ h) in
      let s = short_value y m.0 m.1 in
      subst (C (y ∷ v)) m.2 (one y v m.0 m.1 s.0 (ascii_scalar m.0 s.1)))
