-- A line that is written piece by piece.
use Rattle.std.proofs.Common.{◌≡◌, ◌∙◌, ℕ, List, ◌++◌, ap, append_assoc, codes, decimal}
use Rattle.check_text.specs.Names.{file_name}
use Rattle.check_text.specs.Text.{place_line}

-- the pieces of a line of a place
abbrev pub pieces : List ℕ → List ℕ → List ℕ → ℕ → ℕ → List ℕ
pieces what name file index member =
    what ++ (codes " " ++ (name ++ (codes " " ++ (file ++ (codes " " ++ (decimal index ++ (codes " " ++ (decimal member ++ codes "\n"))))))))

pub place_pieces : (what name file : List ℕ) (number index member : ℕ) → file ≡ file_name number → pieces what name file index member ≡ place_line what name number index member
place_pieces what name file number index member is =
    let joined : pieces what name (file_name number) index member ≡ place_line what name number index member = simp append_assoc in
    ap (λ (f : List ℕ). pieces what name f index member) is ∙ joined
