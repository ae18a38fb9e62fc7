-- Where the row of a pair stands among those of all pairs that a test joins, of numbers that rise.
use Rattle.std.proofs.Common.{◌≡◌, ℕ, zero, suc, ◌+◌, Bool, true, false, ◌&&◌, cond, List, [], ◌∷◌, Some, length, take, map, filter, flat_map, refl, sym, ap, ◌∙◌, arith, length-append}
use Rattle.std.specs.Prelude.{Contains, nat_lt, slice_get}
use Rattle.std.specs.List.Sorted.{IsStrictlyIncreasing}
use Rattle.std.proofs.lemmas.List.{length-map}
use Rattle.std.proofs.lemmas.List.Kept.{IsStrictlyIncreasing-filter}
use Rattle.route_certificate.specs.declared.table.TableLink.{TableLink}
use Rattle.route_answers.specs.Places.{IsFirstPlace}
use Rattle.route_answers.proofs.FirstRows.{first_piece, moved}
use Rattle.route_answers.proofs.MemberPlaces.{first_passes}
use Rattle.route_answers.proofs.PairPlaces.{IsRowOf, first_to, lacks_pairs}
use Rattle.route_answers.proofs.Rising.{at_item, kept_at, lesser_before, passed_at, passing_below, rises_from}

-- ---- how many pairs there are

pub pair_lengths : (f : ℕ → ℕ → TableLink) (h : ℕ → List ℕ) (xs : List ℕ) → length (flat_map (λ (a : ℕ). map (f a) (h a)) xs) ≡ length (flat_map h xs)
pair_lengths f h [] = refl
pair_lengths f h (x ∷ xs) =
    let rows = length-append (map (f x) (h x)) (flat_map (λ (a : ℕ). map (f a) (h a)) xs) in
    let numbers = length-append (h x) (flat_map h xs) in
    let mapped = length-map (h x) (f x) in
    let rest = pair_lengths f h xs in
    omega (arith, rows, numbers, mapped, rest)

-- ---- those that pass, up to one of them

front_step : (ok : ℕ → Bool) (y : ℕ) (xs front : List ℕ) (b : Bool) → take (length (filter ok front)) (filter ok xs) ≡ filter ok front
    → take (length (cond b (y ∷ filter ok front) (filter ok front))) (cond b (y ∷ filter ok xs) (filter ok xs)) ≡ cond b (y ∷ filter ok front) (filter ok front)
front_step ok y xs front true rest = ap (λ (ys : List ℕ). y ∷ ys) rest
front_step ok y xs front false rest = rest

-- they stand in front of all that pass
front_kept : (ok : ℕ → Bool) (i : ℕ) (xs : List ℕ) → take (length (filter ok (take i xs))) (filter ok xs) ≡ filter ok (take i xs)
front_kept ok zero xs = refl
front_kept ok (suc i) [] = refl
front_kept ok (suc i) (x ∷ xs) = front_step ok x xs (take i xs) (ok x) (front_kept ok i xs)

-- ---- the place

-- by the place of its first among all
pair_at : (f : ℕ → ℕ → TableLink) → IsRowOf f → (t : ℕ → ℕ → Bool) (ok : ℕ → Bool) (xs : List ℕ) (i a b : ℕ) → IsStrictlyIncreasing xs → slice_get xs i ≡ Some a → Contains xs b → ok a ≡ true → (t a b && ok b) ≡ true
    → IsFirstPlace (flat_map (λ (c : ℕ). map (f c) (filter (λ d. t c d && ok d) xs)) (filter ok xs)) (f a b)
    (length (flat_map (λ (c : ℕ). filter (λ d. t c d && ok d) xs) (filter ok (take i xs))) + length (filter (λ (d : ℕ). nat_lt d b && (t a d && ok d)) xs))
pair_at f is t ok xs i a b rise here there pass joined =
    let h : ℕ → List ℕ = λ c. filter (λ d. t c d && ok d) xs in
    let g : ℕ → List TableLink = λ c. map (f c) (h c) in
    let chosen = filter ok xs in
    let at = length (filter ok (take i xs)) in
    let k = length (filter (λ (d : ℕ). nat_lt d b && (t a d && ok d)) xs) in
    let up = IsStrictlyIncreasing-filter ok xs rise in
    let first = kept_at ok xs i a here pass in
    let second = first_to f is a (h a) k b (rises_from (h a) (IsStrictlyIncreasing-filter (λ (d : ℕ). t a d && ok d) xs rise)) (passed_at (λ (d : ℕ). t a d && ok d) xs b rise there joined) in
    moved (flat_map g chosen) (f a b) (length (flat_map g (take at chosen)) + k) _
    (ap (λ (n : ℕ). n + k) (pair_lengths f h (take at chosen) ∙ ap (λ (ys : List ℕ). length (flat_map h ys)) (front_kept ok i xs)))
    (first_piece g chosen at a (f a b) k first (lacks_pairs f is h (take at chosen) a b (lesser_before chosen at a (rises_from chosen up) first)) second)

-- behind those from lesser numbers, and behind those to lesser ones
pub joined_pair : (f : ℕ → ℕ → TableLink) → IsRowOf f → (t : ℕ → ℕ → Bool) (ok : ℕ → Bool) (xs : List ℕ) (a b : ℕ) → IsStrictlyIncreasing xs → Contains xs a → Contains xs b → ok a ≡ true → ok b ≡ true → t a b ≡ true
    → IsFirstPlace (flat_map (λ (c : ℕ). map (f c) (filter (λ d. t c d && ok d) xs)) (filter ok xs)) (f a b)
    (length (flat_map (λ (c : ℕ). filter (λ d. t c d && ok d) xs) (filter (λ (m : ℕ). nat_lt m a && ok m) xs)) + length (filter (λ (d : ℕ). nat_lt d b && (t a d && ok d)) xs))
joined_pair f is t ok xs a b rise from to start end joined =
    let h : ℕ → List ℕ = λ c. filter (λ d. t c d && ok d) xs in
    let at = at_item xs a from in
    moved _ (f a b) _ _ (ap (λ (ys : List ℕ). length (flat_map h ys) + length (filter (λ (d : ℕ). nat_lt d b && (t a d && ok d)) xs)) (sym (passing_below ok xs at.0 a (rises_from xs rise) at.1)))
    (pair_at f is t ok xs at.0 a b rise at.1 to start (first_passes (t a b) (ok b) true joined end))
