-- A line that is written piece by piece.
use Rattle.std.proofs.Common.{◌≡◌, ℕ, List, [], ◌∷◌, ◌++◌, ◌∙◌, append_assoc, codes}
use Rattle.line_forms.specs.Lines.{line, word}

pub two_pieces : (old a b end id : List ℕ) → a ≡ old ++ codes "node " → b ≡ a ++ id → end ≡ b ++ 10 ∷ [] → end ≡ old ++ line (word (codes "node") id)
two_pieces old a b end id p q r =
    let whole : end ≡ ((old ++ codes "node ") ++ id) ++ 10 ∷ [] = cc in
    whole ∙ simp append_assoc

pub five_pieces : (old a b c d e f g h end from to cost id : List ℕ) → a ≡ old ++ codes "link " → b ≡ a ++ from → c ≡ b ++ 32 ∷ [] → d ≡ c ++ to → e ≡ d ++ 32 ∷ [] → f ≡ e ++ cost → g ≡ f ++ 32 ∷ []
    → h ≡ g ++ id → end ≡ h ++ 10 ∷ [] → end ≡ old ++ line (word (codes "link") (word from (word to (word cost id))))
five_pieces old a b c d e f g h end from to cost id p1 p2 p3 p4 p5 p6 p7 p8 p9 =
    let whole : end ≡ ((((((((old ++ codes "link ") ++ from) ++ 32 ∷ []) ++ to) ++ 32 ∷ []) ++ cost) ++ 32 ∷ []) ++ id) ++ 10 ∷ [] = cc in
    whole ∙ simp append_assoc
