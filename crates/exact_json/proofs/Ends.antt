-- The ends of a list, taken off one after another.
use Rattle.std.proofs.Common.{◌≡◌, ℕ, ◌+◌, ◌-◌, ◌≤◌, List, ◌++◌, take, drop, length, sym, ap, ◌∙◌, arith, length-append, length-drop, take-append-drop}
use Rattle.std.proofs.lemmas.List.{drop-append-le}

pub rest_length : {X : Type 0} (k : ℕ) (xs rest : List X) → rest ≡ take (length xs - k) xs → length rest ≡ length xs - k
rest_length k xs rest is =
    let m = length xs - k in
    omega (arith, ap length is, length-append (take m xs) (drop m xs), ap length (take-append-drop m xs), length-drop m xs)

-- the last j of what is left of a list without its last k, and those
pub two_ends : {X : Type 0} (j k : ℕ) (xs rest : List X) → rest ≡ take (length xs - k) xs → k + j ≤ length xs → drop (length rest - j) rest ++ drop (length xs - k) xs ≡ drop (length xs - (k + j)) xs
two_ends j k xs rest is le =
    let end = drop (length xs - k) xs in
    let at : length rest - j ≡ length xs - (k + j) = omega (arith, rest_length k xs rest is, le) in
    sym (drop-append-le (length rest - j) rest end (omega arith)) ∙ ap (drop (length rest - j)) (ap (λ l. l ++ end) is ∙ take-append-drop (length xs - k) xs) ∙ ap (λ n. drop n xs) at
