use Rattle.std.proofs.Common.{◌≡◌, ℕ, List, [], ◌∷◌, length, get_or, map, sym, ap, ◌∙◌, arith}
use Rattle.std.specs.Prelude.{String, string_bytes}
use Rattle.std.specs.declared.alloc.Global.{Global}
use Rattle.venue_commands.proofs.words.six_words.Goals as goal

six_of : {X : Type 0} (xs : List X) (a b c d e f : X) → length xs ≡ 6 → a ≡ get_or xs 0 a → b ≡ get_or xs 1 b → c ≡ get_or xs 2 c → d ≡ get_or xs 3 d → e ≡ get_or xs 4 e → f ≡ get_or xs 5 f
    → xs ≡ a ∷ b ∷ c ∷ d ∷ e ∷ f ∷ []
six_of [] a b c d e f len p q r s t u = absurd (omega arith)
six_of (x ∷ []) a b c d e f len p q r s t u = absurd (omega arith)
six_of (x ∷ y ∷ []) a b c d e f len p q r s t u = absurd (omega arith)
six_of (x ∷ y ∷ z ∷ []) a b c d e f len p q r s t u = absurd (omega arith)
six_of (x ∷ y ∷ z ∷ w ∷ []) a b c d e f len p q r s t u = absurd (omega arith)
six_of (x ∷ y ∷ z ∷ w ∷ v ∷ []) a b c d e f len p q r s t u = absurd (omega arith)
six_of {X} (x ∷ y ∷ z ∷ w ∷ v ∷ o ∷ []) a b c d e f len p q r s t u =
    ap (λ (n : X). n ∷ y ∷ z ∷ w ∷ v ∷ o ∷ []) (sym p) ∙ ap (λ (n : X). a ∷ n ∷ z ∷ w ∷ v ∷ o ∷ []) (sym q) ∙ ap (λ (n : X). a ∷ b ∷ n ∷ w ∷ v ∷ o ∷ []) (sym r)
    ∙ ap (λ (n : X). a ∷ b ∷ c ∷ n ∷ v ∷ o ∷ []) (sym s) ∙ ap (λ (n : X). a ∷ b ∷ c ∷ d ∷ n ∷ o ∷ []) (sym t) ∙ ap (λ (n : X). a ∷ b ∷ c ∷ d ∷ e ∷ n ∷ []) (sym u)
six_of (x ∷ y ∷ z ∷ w ∷ v ∷ o ∷ n ∷ xs) a b c d e f len p q r s t u = absurd (omega arith)

pub returns-in-len6-clause-found : goal.returns-in-len6-clause-found
returns-in-len6-clause-found c =
    let words = six_of c.args.words.now c.first-item.result c.second-item.result c.third-item.result c.fourth-item.result c.fifth-item.result c.sixth-item.result
    (omega arith) c.first-item.is c.second-item.is c.third-item.is c.fourth-item.is c.fifth-item.is c.sixth-item.is in
    let third = string_bytes c.third-item.result in
    let fourth = string_bytes c.fourth-item.result in
    let fifth = string_bytes c.fifth-item.result in
    let sixth = string_bytes c.sixth-item.result in
    let one = c.as_str.result.now in
    let two = c.as_str-in-len6.result.now in
    let three = c.as_str-in-len6-2.result.now in
    let four = c.as_str-in-len6-3.result.now in
    let five = c.as_str-in-len6-4.result.now in
    ap (λ (ws : List (String Global)). map string_bytes ws) words
    ∙ ap (λ (w : List ℕ). w ∷ string_bytes c.second-item.result ∷ third ∷ fourth ∷ fifth ∷ sixth ∷ []) (sym c.as_str.ensures.value)
    ∙ ap (λ (w : List ℕ). one ∷ w ∷ third ∷ fourth ∷ fifth ∷ sixth ∷ []) (sym c.as_str-in-len6.ensures.value)
    ∙ ap (λ (w : List ℕ). one ∷ two ∷ w ∷ fourth ∷ fifth ∷ sixth ∷ []) (sym c.as_str-in-len6-2.ensures.value)
    ∙ ap (λ (w : List ℕ). one ∷ two ∷ three ∷ w ∷ fifth ∷ sixth ∷ []) (sym c.as_str-in-len6-3.ensures.value)
    ∙ ap (λ (w : List ℕ). one ∷ two ∷ three ∷ four ∷ w ∷ sixth ∷ []) (sym c.as_str-in-len6-4.ensures.value)
    ∙ ap (λ (w : List ℕ). one ∷ two ∷ three ∷ four ∷ five ∷ w ∷ []) (sym c.as_str-in-len6-5.ensures.value)
