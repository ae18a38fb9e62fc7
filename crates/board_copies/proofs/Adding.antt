-- What the one exchange of the book does: it adds the list that was asked for, or it finds a longer log and adds nothing.
use Rattle.board_copies.specs.declared.counter.Tried.{Tried}
use Rattle.board_copies.specs.Lists.{IsCounted, Adds}
use Rattle.board_copies.proofs.Fronts.{prefix_whole}
use Rattle.logbook.specs.Pages.{Cell, cell, keeps, no_nib, step, Moves, Goes}
use Rattle.std.proofs.Common.{◌≡◌, ℕ, ◌+◌, ◌<◌, ◌==◌, Bool, true, false, List, [], ◌∷◌, ◌++◌, length, length-append, refl, sym, ap, subst, inl, None, arith}
use Rattle.std.proofs.lemmas.Bool.Decides.{nat_tests}
use Rattle.std.proofs.lemmas.List.{append-nil}
use mathlib.Core.List.{IsPrefix}
use prog.Atomic.{either}

-- the two words of the book: its length, and one that isn't used
abbrev pub words : ℕ → List Cell
words n = (n, true) ∷ (0, true) ∷ []

abbrev pub hides : List Tried → List Tried
hides log = []

abbrev pub frees : List Tried → List Tried → ℕ → Type 0
frees before after answer = Unit {0}

-- the word after the exchange
abbrev pub next : ℕ → ℕ → ℕ
next old n = either (n == old) (old + 1) n

-- the exchange at a log of which `known` was seen
abbrev pub Exchanged : List Tried → Tried → ℕ → List Tried → Type 0
Exchanged known list old log = Goes IsCounted hides frees 0 (known, (no_nib, None)) (next old) (Adds (step 0 old (old + 1) list) (known, (no_nib, None))) (words (length log)) log

exchanged : (known log : List Tried) (list : Tried) (old : ℕ) (hit : Bool) → (length log == old) ≡ hit → length known ≡ old → IsPrefix known log → Exchanged known list old log
exchanged known log list old true found all begins =
    let here : length log ≡ old = grind (arith, nat_tests) in
    let one : length (log ++ list ∷ []) ≡ length log + 1 = length-append log (list ∷ []) in
    let counted : next old (length log) ≡ length (log ++ list ∷ []) = rw found (omega (arith, here, one)) in
    let same = prefix_whole known log begins (omega (arith, here, all)) in
    (keeps, list ∷ [], None, tt, ap words counted, inl (refl, refl), rw found (ap (λ seen. seen ++ list ∷ []) (sym same)))
exchanged known log list old false found all begins =
    let stays = sym (ap length (append-nil log)) in
    (keeps, [], None, tt, ap words (rw found stays), inl (refl, refl), rw found (ap length (append-nil log)))

pub adds_moves : (known : List Tried) (list : Tried) (old : ℕ) → length known ≡ old
    → Moves IsCounted hides frees 0 (known, (no_nib, None)) (next old) (Adds (step 0 old (old + 1) list) (known, (no_nib, None)))
adds_moves known list old all cells log counted begins away =
    let At : List Cell → Type 0 = λ page. (0 < length page) × ((cell page 0).1 ≡ true) × Goes IsCounted hides frees 0 (known, (no_nib, None)) (next old) (Adds (step 0 old (old + 1) list) (known, (no_nib, None))) page log in
    let whole : At (words (length log)) = (omega arith, refl, exchanged known log list old (length log == old) refl all begins) in
    subst At (sym counted) whole
