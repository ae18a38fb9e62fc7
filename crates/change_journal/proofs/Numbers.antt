-- Numbers of bytes, read from bytes.
use Rattle.std.proofs.Common.{◌≡◌, ℕ, ◌+◌, ◌-◌, ◌*◌, ◌^◌, ◌<◌, ◌≤◌, List, [], ◌∷◌, ◌++◌, take, drop, sym, ◌∙◌, ap, arith}
use Rattle.std.specs.Int.{bytes_high_first, byte_at}
use Rattle.std.proofs.lemmas.List.{take-append-drop, drop-drop, drop-take, take-take}
use Rattle.change_journal.specs.Looks.{Spans}

-- a front, and what stands behind it
pub span : (place count : ℕ) (piece bytes : List ℕ) → piece ≡ take count (drop place bytes) → Spans place (place + count) piece bytes
span place count piece bytes is =
    sym (take-append-drop count (drop place bytes)) ∙ ap (λ (l : List ℕ). l ++ drop count (drop place bytes)) (sym is)
    ∙ ap (λ (l : List ℕ). piece ++ l) (drop-drop count place bytes)

-- the lower bytes of a number of two halves, and the higher ones
pub halves : (high low : ℕ) → low < 2 ^ 64 → bytes_high_first 16 (high * 18446744073709551616 + low) ≡ bytes_high_first 8 high ++ bytes_high_first 8 low
halves high low small =
    let n = high * 18446744073709551616 + low in
    let h0 : byte_at 8 n ≡ byte_at 0 high = omega (arith, small) in
    let h1 : byte_at 9 n ≡ byte_at 1 high = omega (arith, small) in
    let h2 : byte_at 10 n ≡ byte_at 2 high = omega (arith, small) in
    let h3 : byte_at 11 n ≡ byte_at 3 high = omega (arith, small) in
    let h4 : byte_at 12 n ≡ byte_at 4 high = omega (arith, small) in
    let h5 : byte_at 13 n ≡ byte_at 5 high = omega (arith, small) in
    let h6 : byte_at 14 n ≡ byte_at 6 high = omega (arith, small) in
    let h7 : byte_at 15 n ≡ byte_at 7 high = omega (arith, small) in
    let l0 : byte_at 0 n ≡ byte_at 0 low = omega (arith, small) in
    let l1 : byte_at 1 n ≡ byte_at 1 low = omega (arith, small) in
    let l2 : byte_at 2 n ≡ byte_at 2 low = omega (arith, small) in
    let l3 : byte_at 3 n ≡ byte_at 3 low = omega (arith, small) in
    let l4 : byte_at 4 n ≡ byte_at 4 low = omega (arith, small) in
    let l5 : byte_at 5 n ≡ byte_at 5 low = omega (arith, small) in
    let l6 : byte_at 6 n ≡ byte_at 6 low = omega (arith, small) in
    let l7 : byte_at 7 n ≡ byte_at 7 low = omega (arith, small) in
    λ i. h7 i ∷ h6 i ∷ h5 i ∷ h4 i ∷ h3 i ∷ h2 i ∷ h1 i ∷ h0 i ∷ l7 i ∷ l6 i ∷ l5 i ∷ l4 i ∷ l3 i ∷ l2 i ∷ l1 i ∷ l0 i ∷ []

-- bytes copied from a window
pub copied : (window bytes : List ℕ) (start held place count : ℕ) → start ≤ place → place + count ≤ start + held → take held window ≡ take held (drop start bytes)
    → take count (drop (place - start) window) ≡ take count (drop place bytes)
copied window bytes start held place count begins ends is =
    let k = place - start in
    let m = held - k in
    let whole : k + m ≡ held = omega (arith, begins, ends) in
    let few : count ≤ m = omega (arith, begins, ends) in
    let at : start + k ≡ place = omega (arith, begins) in
    let far : take m (drop k window) ≡ take m (drop place bytes) =
    sym (drop-take k m window) ∙ ap (λ n. drop k (take n window)) whole ∙ ap (λ (l : List ℕ). drop k l) is ∙ ap (λ n. drop k (take n (drop start bytes))) (sym whole)
    ∙ drop-take k m (drop start bytes) ∙ ap (λ (l : List ℕ). take m l) (drop-drop k start bytes) ∙ ap (λ n. take m (drop n bytes)) at in
    sym (take-take count m (drop k window) few) ∙ ap (λ (l : List ℕ). take count l) far ∙ take-take count m (drop place bytes) few
