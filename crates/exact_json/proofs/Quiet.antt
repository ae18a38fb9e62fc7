-- Bytes that open and close nothing: no quote and no bracket.
use Rattle.std.proofs.Common.{◌≡◌, ◌≢◌, ℕ, suc, ◌+◌, ◌≤◌, Bool, true, false, cond, List, [], ◌∷◌, ◌++◌, take, refl, subst, arith}
use Rattle.std.proofs.lemmas.Bool.{and_parts}
use Rattle.std.specs.List.{prefix_len}
use Rattle.std.specs.Char.{is_ascii_digit}
use Rattle.exact_json.specs.Number.{is_space}
use Rattle.exact_json.specs.Grammar.{IsSpace}

pub record IsQuiet (c : ℕ) : Type 0 where
  pub quote : c ≢ 34
  pub open_list : c ≢ 91
  pub open_object : c ≢ 123
  pub close_list : c ≢ 93
  pub close_object : c ≢ 125

abbrev pub AllQuiet : List ℕ → Type 0
AllQuiet [] = Unit {0}
AllQuiet (c ∷ cs) = IsQuiet c × AllQuiet cs

pub quiet_below : (c : ℕ) → c ≤ 90 → c ≢ 34 → IsQuiet c
quiet_below c h q = record { quote = q; open_list = λ e. omega (arith, h, e); open_object = λ e. omega (arith, h, e); close_list = λ e. omega (arith, h, e); close_object = λ e. omega (arith, h, e) }

pub quiet_letter : (c : ℕ) → 94 ≤ c → c ≤ 122 → IsQuiet c
quiet_letter c l h = record { quote = λ e. omega (arith, l, e); open_list = λ e. omega (arith, l, e); open_object = λ e. omega (arith, h, e); close_list = λ e. omega (arith, l, e); close_object = λ e. omega (arith, h, e) }

pub quiet_append : (a b : List ℕ) → AllQuiet a → AllQuiet b → AllQuiet (a ++ b)
quiet_append [] b h g = g
quiet_append (c ∷ a) b h g = (h.0, quiet_append a b h.1 g)

space_range : (c : ℕ) → is_space c ≡ true → c ≤ 32
space_range c h = grind (arith, h)

pub quiet_space : (b : List ℕ) → IsSpace b → AllQuiet b
quiet_space [] h = tt
quiet_space (c ∷ b) h = let p = and_parts _ _ h in (quiet_below c (omega (arith, space_range c p.0)) (λ e. omega (arith, e, space_range c p.0)), quiet_space b p.1)

digit_range : (c : ℕ) → is_ascii_digit c ≡ true → (48 ≤ c) × (c ≤ 57)
digit_range c h = grind (arith, h)

digits_by : (c : ℕ) (cs : List ℕ) (d : Bool) → is_ascii_digit c ≡ d → AllQuiet (take (prefix_len is_ascii_digit cs) cs) → AllQuiet (take (cond d (1 + prefix_len is_ascii_digit cs) 0) (c ∷ cs))
digits_by c cs false h ih = tt
digits_by c cs true h ih =
    let more : suc (prefix_len is_ascii_digit cs) ≡ 1 + prefix_len is_ascii_digit cs = omega arith in
    let r = digit_range c h in
    subst (λ n. AllQuiet (take n (c ∷ cs))) more (quiet_below c (omega (arith, r.1)) (λ e. omega (arith, e, r.0)), ih)

pub quiet_digits : (t : List ℕ) → AllQuiet (take (prefix_len is_ascii_digit t) t)
quiet_digits [] = tt
quiet_digits (c ∷ cs) = digits_by c cs (is_ascii_digit c) refl (quiet_digits cs)
