use Rattle.std.proofs.Common.{◌≡◌, ℕ, List, [], ◌∷◌, length, get_or, map, sym, ap, ◌∙◌, arith}
use Rattle.std.specs.Prelude.{String, string_bytes}
use Rattle.std.specs.declared.alloc.Global.{Global}
use Rattle.venue_commands.proofs.words.three_words.Goals as goal

three_of : {X : Type 0} (xs : List X) (a b c : X) → length xs ≡ 3 → a ≡ get_or xs 0 a → b ≡ get_or xs 1 b → c ≡ get_or xs 2 c → xs ≡ a ∷ b ∷ c ∷ []
three_of [] a b c len p q r = absurd (omega arith)
three_of (x ∷ []) a b c len p q r = absurd (omega arith)
three_of (x ∷ y ∷ []) a b c len p q r = absurd (omega arith)
three_of {X} (x ∷ y ∷ z ∷ []) a b c len p q r =
    ap (λ (w : X). w ∷ y ∷ z ∷ []) (sym p) ∙ ap (λ (w : X). a ∷ w ∷ z ∷ []) (sym q) ∙ ap (λ (w : X). a ∷ b ∷ w ∷ []) (sym r)
three_of (x ∷ y ∷ z ∷ w ∷ xs) a b c len p q r = absurd (omega arith)

pub returns-in-len3-clause-found : goal.returns-in-len3-clause-found
returns-in-len3-clause-found c =
    let words = three_of c.args.words.now c.first-item.result c.second-item.result c.third-item.result (omega arith) c.first-item.is c.second-item.is c.third-item.is in
    ap (λ (ws : List (String Global)). map string_bytes ws) words
    ∙ ap (λ (w : List ℕ). w ∷ string_bytes c.second-item.result ∷ string_bytes c.third-item.result ∷ []) (sym c.as_str.ensures.value)
    ∙ ap (λ (w : List ℕ). c.as_str.result.now ∷ w ∷ string_bytes c.third-item.result ∷ []) (sym c.as_str-in-len3.ensures.value)
    ∙ ap (λ (w : List ℕ). c.as_str.result.now ∷ c.as_str-in-len3.result.now ∷ w ∷ []) (sym c.as_str-in-len3-2.ensures.value)
