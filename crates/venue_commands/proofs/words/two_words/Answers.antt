use Rattle.std.proofs.Common.{◌≡◌, ℕ, List, [], ◌∷◌, length, get_or, map, sym, ap, ◌∙◌, arith}
use Rattle.std.specs.Prelude.{String, string_bytes}
use Rattle.std.specs.declared.alloc.Global.{Global}
use Rattle.venue_commands.proofs.words.two_words.Goals as goal

two_of : {X : Type 0} (xs : List X) (a b : X) → length xs ≡ 2 → a ≡ get_or xs 0 a → b ≡ get_or xs 1 b → xs ≡ a ∷ b ∷ []
two_of [] a b len p q = absurd (omega arith)
two_of (x ∷ []) a b len p q = absurd (omega arith)
two_of {X} (x ∷ y ∷ []) a b len p q = ap (λ (z : X). z ∷ y ∷ []) (sym p) ∙ ap (λ (z : X). a ∷ z ∷ []) (sym q)
two_of (x ∷ y ∷ z ∷ xs) a b len p q = absurd (omega arith)

pub returns-in-len2-clause-found : goal.returns-in-len2-clause-found
returns-in-len2-clause-found c =
    let words = two_of c.args.words.now c.first-item.result c.second-item.result (omega arith) c.first-item.is c.second-item.is in
    ap (λ (ws : List (String Global)). map string_bytes ws) words
    ∙ ap (λ (w : List ℕ). w ∷ string_bytes c.second-item.result ∷ []) (sym c.as_str.ensures.value)
    ∙ ap (λ (w : List ℕ). c.as_str.result.now ∷ w ∷ []) (sym c.as_str-in-len2.ensures.value)
