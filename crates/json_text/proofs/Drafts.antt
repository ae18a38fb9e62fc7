-- Pieces that are added to a draft one behind the other.
use Rattle.std.proofs.Common.{◌≡◌, ℕ, ◌+◌, ◌-◌, ◌^◌, ◌≤◌, List, [], ◌++◌, length, take, min, ◌⊎◌, inl, inr, refl, sym, ap, ap₂, ◌∙◌, arith, append_assoc, length-append}
use Rattle.std.proofs.lemmas.List.{append-nil, length-take-le, take_all, take-append-le}
use Rattle.std.proofs.Math.Seq.{take-append-add}
use Rattle.json_text.specs.Drafts.{Drafted, fresh, onto}

within_or_beyond : (n m : ℕ) → (n ≤ m) ⊎ (m ≤ n)
within_or_beyond n m = grind arith

-- of two pieces is held what is held of them as one
held : (n : ℕ) (s t : List ℕ) → (n ≤ length s) ⊎ (length s ≤ n) → take n s ++ take (n - length (take n s)) t ≡ take n (s ++ t)
held n s t (inl within) =
    let nothing : n - length (take n s) ≡ 0 = omega (arith, length-take-le n s within) in
    ap (λ k. take n s ++ take k t) nothing ∙ append-nil (take n s) ∙ sym (take-append-le n s t within)
held n s t (inr beyond) =
    let all = take_all n s beyond in
    let behind : length s + (n - length s) ≡ n = omega (arith, beyond) in
    ap (λ (u : List ℕ). u ++ take (n - length u) t) all ∙ sym (take-append-add s t (n - length s)) ∙ ap (λ k. take k (s ++ t)) behind

held_behind : (n : ℕ) (b s t : List ℕ) → (b ++ take (n - length b) s) ++ take (n - length (b ++ take (n - length b) s)) t ≡ b ++ take (n - length b) (s ++ t)
held_behind n b s t =
    let left : n - length (b ++ take (n - length b) s) ≡ (n - length b) - length (take (n - length b) s) = omega (arith, length-append b (take (n - length b) s)) in
    ap (λ k. (b ++ take (n - length b) s) ++ take k t) left
    ∙ append_assoc b (take (n - length b) s) (take ((n - length b) - length (take (n - length b) s)) t)
    ∙ ap (λ u. b ++ u) (held (n - length b) s t (within_or_beyond (n - length b) (length s)))

counted : (most n a b c : ℕ) → c ≡ a + b → (n + min a (most - n)) + min b (most - (n + min a (most - n))) ≡ n + min c (most - n)
counted most n a b c is = omega (arith, is)

abbrev pub made : ℕ → List ℕ → ℕ → Drafted
made r b n = record { room = r; bytes = b; len = n }

-- a sum that stops at the most
pub stops : (most n k : ℕ) → n ≤ most → min (n + k) most ≡ n + min k (most - n)
stops most n k within = omega (arith, within)

-- two pieces are added as one
pub onto_twice : (d : Drafted) (s t : List ℕ) → onto (onto d s) t ≡ onto d (s ++ t)
unfolding onto
onto_twice d s t =
    ap₂ (made d.room) (held_behind d.room d.bytes s t) (counted (2 ^ 64 - 1) d.len (length s) (length t) (length (s ++ t)) (length-append s t))

none_held : (b : List ℕ) (k : ℕ) → b ++ take k [] ≡ b
none_held b k = ap (λ s. b ++ s) (take_all k [] (omega arith)) ∙ append-nil b

none_counted : (n k : ℕ) → n + min 0 k ≡ n
none_counted n k = omega arith

-- an empty piece changes nothing
pub onto_nothing : (d : Drafted) → onto d [] ≡ d
unfolding onto
onto_nothing d = ap₂ (made d.room) (none_held d.bytes (d.room - length d.bytes)) (none_counted d.len (2 ^ 64 - 1 - d.len))

-- of what is added to a fresh draft a front is held
pub fresh_front : (n : ℕ) (s : List ℕ) → (onto (fresh n) s).bytes ≡ take n s
unfolding onto
fresh_front n s =
    let all : n - 0 ≡ n = omega arith in
    ap (λ k. take k s) all

-- what finds room in a fresh draft is held as it is
pub fresh_holds : (n : ℕ) (s : List ℕ) → length s ≤ n → (onto (fresh n) s).bytes ≡ s
fresh_holds n s within = fresh_front n s ∙ take_all n s within

pub fresh_counts : (n : ℕ) (s : List ℕ) → (onto (fresh n) s).len ≡ min (length s) (2 ^ 64 - 1)
unfolding onto
fresh_counts n s = omega arith

pub fresh_room : (n : ℕ) (s : List ℕ) → (onto (fresh n) s).room ≡ n
unfolding onto
fresh_room n s = refl
