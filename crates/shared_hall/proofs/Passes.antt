-- Lists of passes, which grow at the end or lose the last.
use Rattle.std.proofs.Common.{arith, refl, suc, ◌≡◌, ℕ, ◌+◌, ◌<◌, length, slice_index_or, List, [], ◌∷◌, ◌++◌, All}
use Rattle.std.proofs.lemmas.List.Sums.{sum_by-append, sum_by-cons}
use Rattle.std.proofs.lemmas.List.Elements.{All-push}
use Rattle.venue_hall.specs.Entry.{Entry}
use Rattle.venue_hall.specs.Facts.{Facts}
use Rattle.shared_hall.specs.Offices.{parts_of, made_of, Begins, AreNumbered}

-- the parts of one pass more
pub parts_push : (xs : List Facts) (p : Facts) → parts_of (xs ++ p ∷ []) ≡ parts_of xs + p.parts
parts_push xs p = omega (arith, sum_by-append (λ (q : Facts). q.parts) xs (p ∷ []))

-- no passes have no parts
pub no_parts : (xs : List Facts) → length xs ≡ 0 → parts_of xs ≡ 0
no_parts [] none = refl
no_parts (x ∷ xs) none = absurd (omega (arith, none))

-- the changes of one pass more
pub made_push : (xs : List Facts) (p : Facts) → made_of (xs ++ p ∷ []) ≡ made_of xs + p.made
made_push xs p = omega (arith, sum_by-append (λ (q : Facts). q.made) xs (p ∷ []))

-- one pass more that has seen a beginning
pub begins_push : (h : List Entry) (xs : List Facts) (p : Facts) → Begins h p → All (Begins h) xs → All (Begins h) (xs ++ p ∷ [])
begins_push h xs p one all = All-push (Begins h) xs p all one

-- one pass more that has the next number
pub numbered_push : (n : ℕ) (xs : List Facts) (p : Facts) → AreNumbered n xs → p.worker ≡ n + length xs → AreNumbered n (xs ++ p ∷ [])
numbered_push n [] p all next = (omega (arith, next), tt)
numbered_push n (x ∷ xs) p all next = (all.0, numbered_push (n + 1) xs p all.1 (omega (arith, next)))

-- passes whose parts stayed, one by one, have the same parts in all
pub same_parts : (xs ys : List Facts) → length xs ≡ length ys → ((i : ℕ) (d : Facts) → i < length xs → (slice_index_or ys i d).parts ≡ (slice_index_or xs i d).parts) → parts_of ys ≡ parts_of xs
same_parts [] [] e each = refl
same_parts [] (y ∷ ys) e each = absurd (omega (arith, e))
same_parts (x ∷ xs) [] e each = absurd (omega (arith, e))
same_parts (x ∷ xs) (y ∷ ys) e each =
    let rest = same_parts xs ys (omega (arith, e)) (λ i d l. each (suc i) d (omega (arith, l))) in
    omega (arith, sum_by-cons (λ (q : Facts). q.parts) x xs, sum_by-cons (λ (q : Facts). q.parts) y ys, rest, each 0 x (omega arith))
