use Rattle.std.proofs.Common.{◌≡◌, ℕ, List, [], ◌∷◌, length, get_or, map, sym, ap, ◌∙◌, arith}
use Rattle.std.specs.Prelude.{String, string_bytes}
use Rattle.std.specs.declared.alloc.Global.{Global}
use Rattle.venue_commands.proofs.words.four_words.Goals as goal

four_of : {X : Type 0} (xs : List X) (a b c d : X) → length xs ≡ 4 → a ≡ get_or xs 0 a → b ≡ get_or xs 1 b → c ≡ get_or xs 2 c → d ≡ get_or xs 3 d → xs ≡ a ∷ b ∷ c ∷ d ∷ []
four_of [] a b c d len p q r s = absurd (omega arith)
four_of (x ∷ []) a b c d len p q r s = absurd (omega arith)
four_of (x ∷ y ∷ []) a b c d len p q r s = absurd (omega arith)
four_of (x ∷ y ∷ z ∷ []) a b c d len p q r s = absurd (omega arith)
four_of {X} (x ∷ y ∷ z ∷ w ∷ []) a b c d len p q r s =
    ap (λ (v : X). v ∷ y ∷ z ∷ w ∷ []) (sym p) ∙ ap (λ (v : X). a ∷ v ∷ z ∷ w ∷ []) (sym q) ∙ ap (λ (v : X). a ∷ b ∷ v ∷ w ∷ []) (sym r) ∙ ap (λ (v : X). a ∷ b ∷ c ∷ v ∷ []) (sym s)
four_of (x ∷ y ∷ z ∷ w ∷ v ∷ xs) a b c d len p q r s = absurd (omega arith)

pub returns-in-len4-clause-found : goal.returns-in-len4-clause-found
returns-in-len4-clause-found c =
    let words = four_of c.args.words.now c.first-item.result c.second-item.result c.third-item.result c.fourth-item.result (omega arith) c.first-item.is c.second-item.is c.third-item.is c.fourth-item.is in
    ap (λ (ws : List (String Global)). map string_bytes ws) words
    ∙ ap (λ (w : List ℕ). w ∷ string_bytes c.second-item.result ∷ string_bytes c.third-item.result ∷ string_bytes c.fourth-item.result ∷ []) (sym c.as_str.ensures.value)
    ∙ ap (λ (w : List ℕ). c.as_str.result.now ∷ w ∷ string_bytes c.third-item.result ∷ string_bytes c.fourth-item.result ∷ []) (sym c.as_str-in-len4.ensures.value)
    ∙ ap (λ (w : List ℕ). c.as_str.result.now ∷ c.as_str-in-len4.result.now ∷ w ∷ string_bytes c.fourth-item.result ∷ []) (sym c.as_str-in-len4-2.ensures.value)
    ∙ ap (λ (w : List ℕ). c.as_str.result.now ∷ c.as_str-in-len4.result.now ∷ c.as_str-in-len4-2.result.now ∷ w ∷ []) (sym c.as_str-in-len4-3.ensures.value)
