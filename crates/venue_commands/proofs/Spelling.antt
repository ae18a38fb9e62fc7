-- Texts that are written piece by piece.
use Rattle.std.proofs.Common.{◌≡◌, ◌∙◌, sym, List, ℕ, [], ◌∷◌, ◌++◌, append_assoc}
use Rattle.line_forms.specs.Lines.{line}

pub three_lines : (a da b db c dc : List ℕ)
    → a ++ (da ++ ((10 ∷ b) ++ (db ++ ((10 ∷ c) ++ (dc ++ 10 ∷ []))))) ≡ line (a ++ da) ++ line (b ++ db) ++ line (c ++ dc)
three_lines a da b db c dc = simp append_assoc

pub two_pieces : (a b : List ℕ) → a ++ (b ++ 10 ∷ []) ≡ line (a ++ b)
two_pieces a b = sym (append_assoc a b (10 ∷ []))

pub three_pieces : (a b c : List ℕ) → a ++ (b ++ (c ++ 10 ∷ [])) ≡ line (a ++ b ++ c)
three_pieces a b c = sym (append_assoc (a ++ b) c (10 ∷ []) ∙ append_assoc a b (c ++ 10 ∷ []))

pub line_before : (a b rest : List ℕ) → a ++ (b ++ (10 ∷ rest)) ≡ line (a ++ b) ++ rest
line_before a b rest = sym (append_assoc (a ++ b) (10 ∷ []) rest ∙ append_assoc a b (10 ∷ rest))

pub five_parts : (s b v r w : List ℕ) → s ++ (b ++ (v ++ (r ++ w))) ≡ s ++ b ++ v ++ r ++ w
five_parts s b v r w = sym (append_assoc (s ++ b ++ v) r w ∙ append_assoc (s ++ b) v (r ++ w) ∙ append_assoc s b (v ++ (r ++ w)))
