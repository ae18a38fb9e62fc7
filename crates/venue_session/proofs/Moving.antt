-- What one write and one read move, of the bytes written and left.
use Rattle.std.proofs.Common.{◌≡◌, ℕ, ◌+◌, ◌-◌, ◌≤◌, List, ◌++◌, length, take, drop, sym, ap, ◌∙◌, arith, append_assoc, Option, Some, None, Ok, Err}
use Rattle.std.proofs.Math.Seq.{take-add}
use Rattle.std.proofs.lemmas.List.{take-append-drop, take-take, length-take}
use Rattle.std.specs.Io.KnownBytes.{Appends, Consumes}
use Rattle.venue_ports.specs.declared.stream.Failed.{Failed}
use Rattle.venue_ports.specs.Moves.{MovesIn, MovesOut}

pub appends_move : (before mid after : Option (List ℕ)) (out piece : List ℕ) (n : ℕ)
    → Appends before mid out → MovesOut {E = Failed} mid after (Ok n) piece → Appends before after (out ++ take n piece)
appends_move None mid after out piece n wrote moved = tt
appends_move (Some xs) None after out piece n wrote moved = absurd wrote
appends_move (Some xs) (Some ys) after out piece n wrote moved =
    rw moved (ap (λ (t : List ℕ). t ++ take n piece) wrote ∙ append_assoc xs out (take n piece))

pub appends_stay : (before mid after : Option (List ℕ)) (out piece : List ℕ) (fault : Failed)
    → Appends before mid out → MovesOut {E = Failed} mid after (Err fault) piece → Appends before after out
appends_stay None mid after out piece fault wrote moved = tt
appends_stay (Some xs) None after out piece fault wrote moved = absurd wrote
appends_stay (Some xs) (Some ys) after out piece fault wrote moved = rw moved wrote

-- the front of the rest of a text goes on with its front
pub front_grows : (text : List ℕ) (done n : ℕ) → n ≤ length (take (length text - done) (drop done text))
    → take done text ++ take n (take (length text - done) (drop done text)) ≡ take (done + n) text
front_grows text done n within =
    let most = length-take (length text - done) (drop done text) in
    ap (λ (t : List ℕ). take done text ++ t) (take-take n (length text - done) (drop done text) (omega (arith, within, most)))
    ∙ sym (take-add done n text)

pub consumes_move : (before after : Option (List ℕ)) (n : ℕ) (buf : List ℕ)
    → MovesIn {E = Failed} before after (Ok n) buf → Consumes before after (take n buf)
consumes_move None after n buf moved = tt
consumes_move (Some xs) None n buf (fits, same, rest, end) = let never : ⊥ = cc in absurd never
consumes_move (Some xs) (Some ys) n buf (fits, same, rest, end) =
    let behind : ys ≡ drop n xs = cc in
    rw (same, behind) (sym (take-append-drop n xs))
