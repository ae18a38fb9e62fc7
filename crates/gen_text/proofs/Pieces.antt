-- A text that is written piece by piece.
use Rattle.std.proofs.Common.{◌≡◌, ℕ, ◌+◌, ◌-◌, ◌<◌, ◌/◌, ◌%◌, zero, suc, List, [], ◌∷◌, ◌++◌, ap, refl, ◌∙◌, append_assoc, arith}
use Rattle.gen_text.specs.Numbers.{padded}

-- one piece more
pub more : (old done next a b : List ℕ) → a ≡ old ++ done → b ≡ a ++ next → b ≡ old ++ (done ++ next)
more old done next a b p q = q ∙ ap (λ (xs : List ℕ). xs ++ next) p ∙ append_assoc old done next

pub three : (old p q r a b c : List ℕ) → a ≡ old ++ p → b ≡ a ++ q → c ≡ b ++ r → c ≡ old ++ (p ++ q ++ r)
three old p q r a b c first second third = more old (p ++ q) r b c (more old p q a b first second) third

-- the digits of a number, one more than before
pub padded_step : (width n : ℕ) → 0 < width → padded width n ≡ padded (width - 1) (n / 10) ++ (48 + n % 10) ∷ []
unfolding padded
padded_step zero n some = absurd (omega arith)
padded_step (suc width) n some = let e : suc width - 1 ≡ width = omega arith in rw e refl

pub padded_none : (width n : ℕ) → width ≡ 0 → padded width n ≡ []
unfolding padded
padded_none zero n none = refl
padded_none (suc width) n none = absurd (omega arith)
