-- Lists that begin others, and what a number names in them.
use Rattle.std.proofs.Common.{◌≡◌, ℕ, zero, suc, ◌<◌, ◌≤◌, List, [], ◌∷◌, ◌++◌, length, ap, sym, refl, ◌∙◌, arith, length-append, append_assoc}
use Rattle.std.proofs.lemmas.List.{append-nil}
use mathlib.Core.List.{IsPrefix}
use Rattle.board_copies.specs.declared.counter.Tried.{Tried}
use Rattle.venue_state.specs.Entry.{Entry}
use Rattle.board_copies.specs.Lists.{listed}
use Rattle.board_copies.specs.Rules.{IsOneLonger}

pub prefix_self : {A : Type 0} (whole : List A) → IsPrefix whole whole
prefix_self whole = ([], append-nil whole)

pub prefix_trans : {A : Type 0} (short middle long : List A) → IsPrefix short middle → IsPrefix middle long → IsPrefix short long
prefix_trans short middle long first second =
    let behind = first.0 ++ second.0 in
    let told : short ++ behind ≡ (short ++ first.0) ++ second.0 = sym (append_assoc short first.0 second.0) in
    (behind, told ∙ ap (λ front. front ++ second.0) first.1 ∙ second.1)

-- nothing stands behind a beginning that is as long as the whole
nothing_behind : {A : Type 0} (front behind whole : List A) → front ++ behind ≡ whole → length whole ≤ length front → front ≡ whole
nothing_behind front [] whole split long = sym (append-nil front) ∙ split
nothing_behind front (one ∷ more) whole split long = absurd (omega (arith, ap length split, length-append front (one ∷ more)))

pub prefix_whole : {A : Type 0} (front whole : List A) → IsPrefix front whole → length whole ≤ length front → front ≡ whole
prefix_whole front whole split long = nothing_behind front split.0 whole split.1 long

-- what is put at the end has the number that was the length
pub listed_last : (log : List Tried) (added : Tried) (n : ℕ) → n ≡ length log → listed (log ++ added ∷ []) n ≡ added.list
listed_last [] added zero same = refl
listed_last [] added (suc n) same = absurd (omega (arith, same))
listed_last (first ∷ log) added zero same = absurd (omega (arith, same))
listed_last (first ∷ log) added (suc n) same = listed_last log added n (omega (arith, same))

listed_front : (front behind : List Tried) (n : ℕ) → n < length front → listed (front ++ behind) n ≡ listed front n
listed_front [] behind n within = absurd (omega (arith, within))
listed_front (first ∷ front) behind zero within = refl
listed_front (first ∷ front) behind (suc n) within = listed_front front behind n (omega (arith, within))

-- a number that a beginning has names the same list in the whole
pub listed_prefix : (front whole : List Tried) (n : ℕ) → IsPrefix front whole → n < length front → listed whole n ≡ listed front n
listed_prefix front whole n split within = sym (ap (λ log. listed log n) split.1) ∙ listed_front front split.0 n within

-- a list begins one that is longer by one entry
pub prefix_longer : (short long : List Entry) → IsOneLonger short long → IsPrefix short long
prefix_longer short long longer = (longer.0 ∷ [], sym longer.1)
