-- A number token is ASCII.
use Rattle.std.proofs.Common.{◌≡◌, ◌≢◌, ℕ, suc, ◌+◌, ◌<◌, Bool, true, false, cond, ◌||◌, ◌==◌, ◌∙◌, List, [], ◌∷◌}
use Rattle.std.proofs.Common.{◌++◌, take, drop, Option, Some, None, option_and_then, inl, inr, refl, sym, ap, subst, arith, append_assoc, take-append-drop}
use Rattle.std.proofs.lemmas.Bool.{eqb-true, or_cases}
use Rattle.std.proofs.lemmas.List.{append-nil}
use Rattle.std.proofs.lemmas.Option.{same_Some}
use Rattle.std.specs.List.{prefix_len, AllByRecursion}
use Rattle.std.specs.Char.{is_ascii_digit}
use Rattle.exact_json.specs.Number.{head, after_digits, after_minus, after_sign, after_whole, after_fraction, after_exponent, after_number, IsNumber}

abbrev pub IsLow : ℕ → Type 0
IsLow c = c < 128

abbrev pub AllLow : List ℕ → Type 0
AllLow b = AllByRecursion IsLow b

low_append : (a b : List ℕ) → AllLow a → AllLow b → AllLow (a ++ b)
low_append [] b h g = g
low_append (c ∷ a) b h g = (h.0, low_append a b h.1 g)

digit_low : (c : ℕ) → is_ascii_digit c ≡ true → c < 128
digit_low c h = grind (arith, h)

digits_by : (c : ℕ) (cs : List ℕ) (d : Bool) → is_ascii_digit c ≡ d → AllLow (take (prefix_len is_ascii_digit cs) cs) → AllLow (take (cond d (1 + prefix_len is_ascii_digit cs) 0) (c ∷ cs))
digits_by c cs false h ih = tt
digits_by c cs true h ih =
    let more : suc (prefix_len is_ascii_digit cs) ≡ 1 + prefix_len is_ascii_digit cs = omega arith in
    subst (λ n. AllLow (take n (c ∷ cs))) more (digit_low c h, ih)

low_digits : (t : List ℕ) → AllLow (take (prefix_len is_ascii_digit t) t)
low_digits [] = tt
low_digits (c ∷ cs) = digits_by c cs (is_ascii_digit c) refl (low_digits cs)

-- what follows bytes of ASCII
abbrev Suffix : List ℕ → List ℕ → Type 0
Suffix t r = (f : List ℕ) × (t ≡ f ++ r) × AllLow f

abbrev Suffixes : List ℕ → Option (List ℕ) → Type 0
Suffixes t o = (r : List ℕ) → o ≡ Some r → Suffix t r

head_cons : (t : List ℕ) (c : ℕ) → head t ≡ c → c ≢ 32 → t ≡ c ∷ drop 1 t
head_cons [] c e ne = absurd (ne (sym e))
head_cons (x ∷ xs) c e ne = ap (λ y. y ∷ xs) e

suffix_one : (t : List ℕ) (c : ℕ) → (head t == c) ≡ true → c ≢ 32 → c < 128 → Suffix t (drop 1 t)
suffix_one t c h ne low = (c ∷ [], head_cons t c (eqb-true (head t) c h) ne, (low, tt))

suffix_either : (t : List ℕ) (c d : ℕ) → ((head t == c) || (head t == d)) ≡ true → c ≢ 32 → d ≢ 32 → c < 128 → d < 128 → Suffix t (drop 1 t)
suffix_either t c d h nc nd lc ld = elim (or_cases (head t == c) (head t == d) h) [ inl e ↦ suffix_one t c e nc lc | inr e ↦ suffix_one t d e nd ld ]

onto : (t u : List ℕ) (o : Option (List ℕ)) → Suffix t u → Suffixes u o → Suffixes t o
onto t u o s f r h = let q = f r h in (s.0 ++ q.0, s.1 ∙ ap (λ l. s.0 ++ l) q.1 ∙ sym (append_assoc s.0 q.0 r), low_append s.0 q.0 s.2 q.2)

either_suffix : (t : List ℕ) (c : Bool) (x y : Option (List ℕ)) → (c ≡ true → Suffixes t x) → Suffixes t y → Suffixes t (cond c x y)
either_suffix t true x y f g = f refl
either_suffix t false x y f g = g

either_rest : (t : List ℕ) (c : Bool) (x y : List ℕ) → (c ≡ true → Suffix t x) → Suffix t y → Suffix t (cond c x y)
either_rest t true x y f g = f refl
either_rest t false x y f g = g

itself : (t : List ℕ) → Suffix t t
itself t = ([], refl, tt)

some_suffix : (t u : List ℕ) → Suffix t u → Suffixes t (Some u)
some_suffix t u s r h = subst (Suffix t) (same_Some u r h) s

no_suffix : (t : List ℕ) → Suffixes t None
no_suffix t r h = cc

then_suffix : (t : List ℕ) (f : List ℕ → Option (List ℕ)) (o : Option (List ℕ)) → ((u : List ℕ) → Suffixes u (f u)) → Suffixes t o → Suffixes t (option_and_then f o)
then_suffix t f None g s = no_suffix t
then_suffix t f (Some u) g s = onto t u (f u) (s u refl) (g u)

digits_suffix : (t : List ℕ) → Suffixes t (after_digits t)
digits_suffix t =
    let n = prefix_len is_ascii_digit t in
    either_suffix t (n == 0) None (Some (drop n t)) (λ e. no_suffix t) (some_suffix t (drop n t) (take n t, sym (take-append-drop n t), low_digits t))

whole_suffix : (t : List ℕ) → Suffixes t (after_whole t)
whole_suffix t = either_suffix t (head t == 48) (Some (drop 1 t)) (after_digits t) (λ e. some_suffix t _ (suffix_one t 48 e (λ w. omega (arith, w)) (omega arith))) (digits_suffix t)

fraction_suffix : (t : List ℕ) → Suffixes t (after_fraction t)
fraction_suffix t =
    either_suffix t (head t == 46) (after_digits (drop 1 t)) (Some t)
    (λ e. onto t (drop 1 t) _ (suffix_one t 46 e (λ w. omega (arith, w)) (omega arith)) (digits_suffix (drop 1 t))) (some_suffix t t (itself t))

sign_suffix : (t : List ℕ) → Suffix t (after_sign t)
sign_suffix t =
    either_rest t ((head t == 45) || (head t == 43)) (drop 1 t) t
    (λ e. suffix_either t 45 43 e (λ w. omega (arith, w)) (λ w. omega (arith, w)) (omega arith) (omega arith)) (itself t)

exponent_suffix : (t : List ℕ) → Suffixes t (after_exponent t)
exponent_suffix t =
    either_suffix t ((head t == 101) || (head t == 69)) (after_digits (after_sign (drop 1 t))) (Some t)
    (λ e. onto t (drop 1 t) _ (suffix_either t 101 69 e (λ w. omega (arith, w)) (λ w. omega (arith, w)) (omega arith) (omega arith))
    (onto (drop 1 t) (after_sign (drop 1 t)) _ (sign_suffix (drop 1 t)) (digits_suffix (after_sign (drop 1 t))))) (some_suffix t t (itself t))

number_suffix : (t : List ℕ) → Suffixes t (after_number t)
unfolding after_number
number_suffix t =
    then_suffix t after_exponent _ exponent_suffix (then_suffix t after_fraction _ fraction_suffix
    (onto t (after_minus t) (after_whole (after_minus t))
    (either_rest t (head t == 45) (drop 1 t) t (λ e. suffix_one t 45 e (λ w. omega (arith, w)) (omega arith)) (itself t)) (whole_suffix (after_minus t))))

pub low_number : (t : List ℕ) → IsNumber t → AllLow t
low_number t h = let s = number_suffix t [] h in subst AllLow (sym (s.1 ∙ append-nil s.0)) s.2
