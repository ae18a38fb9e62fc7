-- Lists whose first item goes to the end of another.
use Rattle.std.proofs.Common.{◌≡◌, ℕ, ◌+◌, length, List, [], ◌∷◌, ◌++◌, ap, sym, subst, ◌∙◌, arith, append_assoc, append-nil}

-- one behind the other they stay the same
pub moved : {T : Type 0} (front front' rest rest' all : List T) (x : T) → front' ≡ front ++ x ∷ [] → rest ≡ x ∷ rest' → front ++ rest ≡ all → front' ++ rest' ≡ all
moved front front' rest rest' all x pushed taken same =
    ap (λ xs. xs ++ rest') pushed ∙ (append_assoc front (x ∷ []) rest' ∙ (ap (λ xs. front ++ xs) (sym taken) ∙ same))

-- and room for all the rest is room for what is left of it
pub room_moved : {T : Type 0} (P Q : ℕ → Type 0) (rest rest' : List T) (x : T) → rest ≡ x ∷ rest' → ((n : ℕ) → P (n + 1) → Q n) → P (length rest) → Q (length rest')
room_moved P Q rest rest' x taken each room =
    let one : length rest ≡ length (x ∷ rest') = ap length taken in
    each (length rest') (subst P (omega (arith, one)) room)

-- where nothing is left, all have moved
pub all_moved : {T : Type 0} (front rest all : List T) → length rest ≡ 0 → front ++ rest ≡ all → front ≡ all
all_moved front [] all none same = sym (append-nil front) ∙ same
all_moved front (x ∷ rest) all none same = absurd (omega (arith, none))

-- and where none has moved, all are left
pub none_moved : {T : Type 0} (front rest all : List T) → length front ≡ 0 → rest ≡ all → front ++ rest ≡ all
none_moved [] rest all none same = same
none_moved (x ∷ front) rest all none same = absurd (omega (arith, none))
