-- Lines of answers that are written piece by piece.
use Rattle.std.proofs.Common.{◌≡◌, ℕ, List, [], ◌∷◌, ◌++◌, ◌∙◌, append_assoc, codes}
use Rattle.line_forms.specs.Lines.{line, word}

pub four_pieces : (old a b c d end node value : List ℕ) → a ≡ old ++ codes "at " → b ≡ a ++ node → c ≡ b ++ 32 ∷ [] → d ≡ c ++ value → end ≡ d ++ 10 ∷ []
    → end ≡ old ++ line (word (codes "at") (word node value))
four_pieces old a b c d end node value p q r s t =
    let whole : end ≡ ((((old ++ codes "at ") ++ node) ++ 32 ∷ []) ++ value) ++ 10 ∷ [] = cc in
    whole ∙ simp append_assoc

pub three_parts : (old a b end x y z : List ℕ) → a ≡ old ++ x → b ≡ a ++ y → end ≡ b ++ z → end ≡ old ++ (x ++ (y ++ z))
three_parts old a b end x y z p q r =
    let whole : end ≡ ((old ++ x) ++ y) ++ z = cc in
    whole ∙ simp append_assoc

pub four_parts : (old a b c end x y z w : List ℕ) → a ≡ old ++ x → b ≡ a ++ y → c ≡ b ++ z → end ≡ c ++ w → end ≡ old ++ (x ++ (y ++ (z ++ w)))
four_parts old a b c end x y z w p q r s =
    let whole : end ≡ (((old ++ x) ++ y) ++ z) ++ w = cc in
    whole ∙ simp append_assoc
