-- The number that digits write, digit by digit.
use Rattle.std.proofs.Common.{◌≡◌, ℕ, zero, suc, ◌+◌, ◌-◌, ◌*◌, ◌^◌, ◌<◌, ◌≤◌, List, [], ◌∷◌, ◌++◌, length, take, drop, get_or, refl, sym, ap, ◌∙◌, subst, arith, length-append}
use Rattle.std.specs.Char.{digit_value}
use Rattle.std.specs.Str.Parse.{AllDigits, digits_value, digits_value_after}
use Rattle.std.proofs.lemmas.Str.Parse.{digit_at}
use Rattle.std.proofs.Math.Nat.{mul-le-mul_left, one-le-pow, pow-suc}
use Rattle.std.proofs.Math.Seq.{take-suc}
use Rattle.std.proofs.lemmas.List.{take-append-drop}
use Rattle.geo_decimal.specs.Rounding.{front_value}

pub after_append : (n : ℕ) (xs ys : List ℕ) → digits_value_after 10 n (xs ++ ys) ≡ digits_value_after 10 (digits_value_after 10 n xs) ys
after_append n [] ys = refl
after_append n (x ∷ xs) ys = after_append (n * 10 + digit_value x) xs ys

-- digits in front count by the power of ten of those behind
pub after_weight : (n : ℕ) (ds : List ℕ) → digits_value_after 10 n ds ≡ n * 10 ^ length ds + digits_value 10 ds
after_weight n [] = omega arith
after_weight n (c ∷ cs) =
    let a = after_weight (n * 10 + digit_value c) cs in
    let b = after_weight (0 * 10 + digit_value c) cs in
    let p = pow-suc 10 (length cs) in
    let q : 10 ^ suc (length cs) ≡ 10 ^ length cs * 10 = omega arith in
    let e : n * 10 ^ suc (length cs) ≡ n * (10 ^ length cs * 10) = ap (λ x. n * x) q in
    omega (arith, a, b, e)

pub after_grows : (n : ℕ) (ds : List ℕ) → n ≤ digits_value_after 10 n ds
after_grows n ds =
    let one : 1 ≤ 10 ^ length ds = one-le-pow (length ds) 10 (omega arith) in
    let m : n * 1 ≤ n * 10 ^ length ds = mul-le-mul_left n one in
    omega (arith, m, after_weight n ds)

pub digit_is : (ds : List ℕ) (i : ℕ) → AllDigits 10 ds → i < length ds → digit_value (get_or ds i 0) ≡ get_or ds i 0 - 48
digit_is ds i h l = let r = digit_at ds i h l in by_range (get_or ds i 0) r.0 r.1
  where
    by_range : (c : ℕ) → 48 ≤ c → c ≤ 57 → digit_value c ≡ c - 48
    by_range c l g = grind (arith, l, g)

pub after_more : (n : ℕ) (ds : List ℕ) (i : ℕ) → AllDigits 10 ds → i < length ds → digits_value_after 10 n (take (i + 1) ds) ≡ digits_value_after 10 n (take i ds) * 10 + (get_or ds i 0 - 48)
after_more n ds i h l =
    let more : take (i + 1) ds ≡ take i ds ++ (get_or ds i 0 ∷ []) = let s : i + 1 ≡ suc i = omega arith in ap (λ k. take k ds) s ∙ take-suc ds i 0 l in
    ap (digits_value_after 10 n) more ∙ after_append n (take i ds) (get_or ds i 0 ∷ []) ∙ ap (λ x. digits_value_after 10 n (take i ds) * 10 + x) (digit_is ds i h l)

-- the first digits write no more than all
pub after_front : (n : ℕ) (ds : List ℕ) (k : ℕ) → digits_value_after 10 n (take k ds) ≤ digits_value_after 10 n ds
after_front n ds k =
    let g = after_grows (digits_value_after 10 n (take k ds)) (drop k ds) in
    subst (λ x. digits_value_after 10 n (take k ds) ≤ x) (sym (after_append n (take k ds) (drop k ds)) ∙ ap (digits_value_after 10 n) (take-append-drop k ds)) g

pub digits_front : (ds : List ℕ) (k : ℕ) → AllDigits 10 ds → AllDigits 10 (take k ds)
digits_front [] zero h = tt
digits_front [] (suc k) h = tt
digits_front (c ∷ cs) zero h = tt
digits_front (c ∷ cs) (suc k) h = (h.0, digits_front cs k h.1)

nothing : (k : ℕ) → take k [] ≡ (let none : List ℕ = [] in none)
nothing zero = refl
nothing (suc k) = refl

front_of_both : (w f : List ℕ) (k : ℕ) → take k (w ++ f) ≡ take k w ++ take (k - length w) f
front_of_both [] f k = let e : k ≡ k - 0 = omega arith in ap (λ j. take j f) e ∙ ap (λ l. l ++ take (k - 0) f) (sym (nothing k))
front_of_both (x ∷ w) f zero = let e : 0 - length (x ∷ w) ≡ 0 = omega arith in sym (ap (λ j. take j f) e)
front_of_both (x ∷ w) f (suc k) = let e : k - length w ≡ suc k - suc (length w) = omega arith in ap (λ l. x ∷ l) (front_of_both w f k) ∙ ap (λ j. x ∷ (take k w ++ take j f)) e

-- the first digits of two lists, one behind the other
pub front_parts : (w f : List ℕ) (k : ℕ) → front_value (w ++ f) k ≡ digits_value_after 10 (digits_value 10 (take k w)) (take (k - length w) f) * 10 ^ (k - length w - length f)
front_parts w f k =
    let z : k - length (w ++ f) ≡ k - length w - length f = omega (arith, length-append w f) in
    let v : digits_value 10 (take k (w ++ f)) ≡ digits_value_after 10 (digits_value 10 (take k w)) (take (k - length w) f) = ap (digits_value 10) (front_of_both w f k) ∙ after_append 0 (take k w) (take (k - length w) f) in
    ap (λ x. x * 10 ^ (k - length (w ++ f))) v ∙ ap (λ n. digits_value_after 10 (digits_value 10 (take k w)) (take (k - length w) f) * 10 ^ n) z

pub zeros_grow : (v z : ℕ) → v ≤ v * 10 ^ z
zeros_grow v z =
    let one : 1 ≤ 10 ^ z = one-le-pow z 10 (omega arith) in
    let m : v * 1 ≤ v * 10 ^ z = mul-le-mul_left v one in
    omega (arith, m)

pub zeros_less : (v z : ℕ) → 0 < z → v * 10 * 10 ^ (z - 1) ≡ v * 10 ^ z
zeros_less v z h =
    let e : z ≡ suc (z - 1) = omega arith in
    let p : 10 ^ z ≡ 10 ^ (z - 1) * 10 = ap (λ n. 10 ^ n) e ∙ pow-suc 10 (z - 1) in
    let q : v * 10 ^ z ≡ v * (10 ^ (z - 1) * 10) = ap (λ x. v * x) p in
    omega (arith, q)

-- what is past a limit early is past it in the end
pub past_first : (w f : List ℕ) (k limit : ℕ) (x : List ℕ) → x ≡ take k w → (digits_value 10 x ≤ limit → ⊥) → front_value (w ++ f) k ≤ limit → ⊥
past_first w f k limit x e past small =
    let v = digits_value 10 (take k w) in
    let a = after_grows v (take (k - length w) f) in
    let z = zeros_grow (digits_value_after 10 v (take (k - length w) f)) (k - length w - length f) in
    let s : digits_value 10 x ≡ v = ap (digits_value 10) e in
    past (omega (arith, a, z, s, small, front_parts w f k))

pub past_second : (w f : List ℕ) (k limit v b : ℕ) (x y : List ℕ) → v ≡ digits_value 10 x → x ≡ take k w → b ≡ k - length w → y ≡ take b f → (digits_value_after 10 v y ≤ limit → ⊥) → front_value (w ++ f) k ≤ limit → ⊥
past_second w f k limit v b x y ev ex eb ey past small =
    let v' = digits_value 10 (take k w) in
    let z = zeros_grow (digits_value_after 10 v' (take (k - length w) f)) (k - length w - length f) in
    let s : digits_value_after 10 v y ≡ digits_value_after 10 v' (take (k - length w) f) =
    ap (λ n. digits_value_after 10 n y) (ev ∙ ap (digits_value 10) ex) ∙ ap (digits_value_after 10 v') (ey ∙ ap (λ n. take n f) eb) in
    past (omega (arith, z, s, small, front_parts w f k))

pub front_whole : (w f : List ℕ) (k v b u z : ℕ) (x y : List ℕ) → v ≡ digits_value 10 x → x ≡ take k w → b ≡ k - length w → y ≡ take b f → u ≡ digits_value_after 10 v y → z ≡ b - length f → u * 10 ^ z ≡ front_value (w ++ f) k
front_whole w f k v b u z x y ev ex eb ey eu ez =
    let v' = digits_value 10 (take k w) in
    let s : u ≡ digits_value_after 10 v' (take (k - length w) f) =
    eu ∙ ap (λ n. digits_value_after 10 n y) (ev ∙ ap (digits_value 10) ex) ∙ ap (digits_value_after 10 v') (ey ∙ ap (λ n. take n f) eb) in
    ap (λ n. n * 10 ^ z) s ∙ ap (λ n. digits_value_after 10 v' (take (k - length w) f) * 10 ^ n) (ez ∙ ap (λ n. n - length f) eb) ∙ sym (front_parts w f k)
