-- How many pairs there are of numbers that differ.
use Rattle.std.proofs.Common.{◌≡◌, ◌≢◌, ℕ, zero, suc, ◌+◌, ◌*◌, ◌-◌, ◌<◌, Bool, not, cond, List, [], ◌∷◌, length, map, filter, flat_map, get_or, Some, None, refl, sym, ap, ◌∙◌, subst, arith, eq-eqb, length-append}
use Rattle.std.specs.Prelude.{AllPairs, slice_get}
use Rattle.std.specs.List.{AllByRecursion}
use Rattle.std.specs.List.Sorted.{IsStrictlyIncreasing}
use Rattle.std.proofs.Math.Nat.{suc-mul}
use Rattle.std.proofs.lemmas.Bool.{ne_eqb}
use Rattle.std.proofs.lemmas.List.{length-map}
use Rattle.std.proofs.lemmas.List.Elements.{recursion_from_All}
use Rattle.std.proofs.lemmas.List.Kept.{AllPairs-from_increasing}
use Rattle.std.proofs.lemmas.Option.{same_Some, slice_get-get_or}
use Rattle.route_answers.specs.Passing.{other_than}
use Rattle.route_certificate.specs.declared.table.TableLink.{TableLink}

-- each differs from those behind it
abbrev Apart : List ℕ → Type 0
Apart [] = Unit {0}
Apart (x ∷ xs) = AllByRecursion (λ (y : ℕ). x ≢ y) xs × Apart xs

apart : (xs : List ℕ) → AllPairs (λ (x y : ℕ). x < y) xs → Apart xs
apart [] h = tt
apart (x ∷ xs) h = (
  recursion_from_All (λ (y : ℕ). x ≢ y) xs (λ k d below e. let less : x < get_or xs k d = h 0 (suc k) d (omega arith) (omega (arith, below)) in omega (arith, less, e)),
  apart xs (λ i j d below within. h (suc i) (suc j) d (omega (arith, below)) (omega (arith, within))),
)

at_item : {X : Type 0} (P : X → Type 0) (xs : List X) (k : ℕ) (x : X) → AllByRecursion P xs → slice_get xs k ≡ Some x → P x
at_item P [] k x all there = absurd (let no_item : None ≡ Some x = there in cc)
at_item P (y ∷ xs) zero x all there = subst P (same_Some y x there) all.0
at_item P (y ∷ xs) (suc k) x all there = at_item P xs k x all.1 there

-- a number that isn't there leaves all
none_less : (a : ℕ) (xs : List ℕ) → AllByRecursion (λ (y : ℕ). a ≢ y) xs → length (filter (other_than a) xs) ≡ length xs
none_less a [] all = refl
none_less a (x ∷ xs) all =
    ap (λ (b : Bool). length (cond (not b) (x ∷ filter (other_than a) xs) (filter (other_than a) xs))) (ne_eqb a x all.0)
    ∙ (let rest = none_less a xs all.1 in omega (arith, rest))

-- one that is there leaves all but one
one_less : (xs : List ℕ) (k a : ℕ) → Apart xs → slice_get xs k ≡ Some a → length (filter (other_than a) xs) + 1 ≡ length xs
one_less [] k a is there = absurd (let no_item : None ≡ Some a = there in cc)
one_less (x ∷ xs) zero a is there =
    let same : x ≡ a = same_Some x a there in
    let left : length (filter (other_than a) (x ∷ xs)) ≡ length (filter (other_than a) xs) =
    ap (λ (b : Bool). length (cond (not b) (x ∷ filter (other_than a) xs) (filter (other_than a) xs))) (eq-eqb a x (sym same)) in
    let rest : length (filter (other_than a) xs) ≡ length xs = none_less a xs (subst (λ (z : ℕ). AllByRecursion (λ (y : ℕ). z ≢ y) xs) same is.0) in
    omega (arith, left, rest)
one_less (x ∷ xs) (suc k) a is there =
    let other : x ≢ a = at_item (λ (y : ℕ). x ≢ y) xs k a is.0 there in
    let kept : length (filter (other_than a) (x ∷ xs)) ≡ length (x ∷ filter (other_than a) xs) =
    ap (λ (b : Bool). length (cond (not b) (x ∷ filter (other_than a) xs) (filter (other_than a) xs))) (ne_eqb a x (λ e. other (sym e))) in
    let rest : length (filter (other_than a) xs) + 1 ≡ length xs = one_less xs k a is.1 there in
    omega (arith, kept, rest)

-- pieces that are as long as each other
pub even : (g : ℕ → List TableLink) (n : ℕ) (xs : List ℕ) → AllByRecursion (λ (x : ℕ). length (g x) ≡ n) xs → length (flat_map g xs) ≡ length xs * n
even g n [] all = omega arith
even g n (x ∷ xs) all =
    let both = length-append (g x) (flat_map g xs) in
    let rest : length (flat_map g xs) ≡ length xs * n = even g n xs all.1 in
    let first = all.0 in
    let product = suc-mul (length xs) n in
    omega (arith, both, rest, first, product)

-- each goes with all the others
pub each_less : (f : ℕ → ℕ → TableLink) (xs : List ℕ) → IsStrictlyIncreasing xs → AllByRecursion (λ (a : ℕ). length (map (f a) (filter (other_than a) xs)) ≡ length xs - 1) xs
each_less f xs rise =
    let differ = apart xs (AllPairs-from_increasing xs rise) in
    recursion_from_All (λ (a : ℕ). length (map (f a) (filter (other_than a) xs)) ≡ length xs - 1) xs (λ k d below.
    let a : ℕ = get_or xs k d in
    let mapped = length-map (filter (other_than a) xs) (f a) in
    let less = one_less xs k a differ (slice_get-get_or xs k d below) in
    omega (arith, mapped, less))

pub pair_count : (f : ℕ → ℕ → TableLink) (xs : List ℕ) → IsStrictlyIncreasing xs → length (flat_map (λ (a : ℕ). map (f a) (filter (other_than a) xs)) xs) ≡ length xs * (length xs - 1)
pair_count f xs rise = even (λ (a : ℕ). map (f a) (filter (other_than a) xs)) (length xs - 1) xs (each_less f xs rise)
