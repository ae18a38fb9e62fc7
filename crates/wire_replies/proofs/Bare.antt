-- A text without its body.
use Rattle.std.proofs.Common.{◌≡◌, ◌∙◌, ◌-◌, ℕ, List, ◌++◌, length, take, ap, arith, length-append}
use Rattle.std.proofs.Math.Seq.{take-append_seam}

pub bare : (text head body : List ℕ) (size count : ℕ) → text ≡ head ++ body → size ≡ length body → count ≡ length text - size → take count text ≡ head
bare text head body size count is size_is count_is =
    let whole = ap (λ (t : List ℕ). length t) is ∙ length-append head body in
    let here : count ≡ length head = omega (arith, whole, size_is, count_is) in
    ap (λ (t : List ℕ). take count t) is ∙ ap (λ (n : ℕ). take n (head ++ body)) here ∙ take-append_seam head body
