-- Steps of the loops of `inside`: what was met so far and what is met ahead make up all, and only the parity counts.
use Rattle.std.proofs.Common.{◌≡◌, ℕ, ◌+◌, ◌%◌, ◌<◌, Bool, true, false, not, cond, IsTrue, ◌↔◌, List, [], ◌∷◌, ◌++◌, zero-add, length, drop, get_or, flat_map, refl, ap, ◌∙◌, arith}
use Rattle.std.proofs.lemmas.List.Sums.{sum_by-append}
use Rattle.std.proofs.lemmas.Bool.{false≢true}
use mathlib.Core.Bool.{beq}
use Rattle.venue_types.specs.declared.point.Point.{Point}
use Rattle.plane_exact.specs.Figure.{Edge, edges_from, crossings, meets_ray}
use Rattle.plane_exact.proofs.ListLemmas.{drop_at}

-- an odd number more turns the parity, an even number keeps it
turned : (odd : Bool) (m n all : ℕ) → m % 2 ≡ 1 → (cond odd 1 0 + (m + n)) % 2 ≡ all → (cond (not odd) 1 0 + n) % 2 ≡ all
turned true m n all e f = omega arith
turned false m n all e f = omega arith

kept : (odd : Bool) (m n all : ℕ) → m % 2 ≡ 0 → (cond odd 1 0 + (m + n)) % 2 ≡ all → (cond odd 1 0 + n) % 2 ≡ all
kept true m n all e f = omega arith
kept false m n all e f = omega arith

-- one more edge
pub crossings-cons : (p : Point) (edge : Edge) (more : List Edge) (m : Bool) → meets_ray p edge ≡ m → crossings p (edge ∷ more) ≡ cond m 1 0 + crossings p more
crossings-cons p edge more m e = sum_by-append (λ edge. cond (meets_ray p edge) 1 0) (edge ∷ []) more ∙ ap (λ n. n + crossings p more) (rw e (zero-add (cond m 1 0)))

pub chain_met : (p a : Point) (rest : List Point) (i : ℕ) (d : Point) (odd odd' : Bool) (all : ℕ) → i < length rest → meets_ray p (record { from = a; to = get_or rest i d }) ≡ true → odd' ≡ not odd → (cond odd 1 0 + crossings p (edges_from a (drop i rest))) % 2 ≡ all → (cond odd' 1 0 + crossings p (edges_from (get_or rest i d) (drop (i + 1) rest))) % 2 ≡ all
chain_met p a rest i d odd odd' all within met e h =
    let b = get_or rest i d in
    let after = crossings p (edges_from b (drop (i + 1) rest)) in
    let split : crossings p (edges_from a (drop i rest)) ≡ 1 + after = ap (λ xs. crossings p (edges_from a xs)) (drop_at rest i b d within refl) ∙ crossings-cons p (record { from = a; to = b }) (edges_from b (drop (i + 1) rest)) true met in
    rw e (turned odd 1 after all refl (rw split at h))

pub chain_missed : (p a : Point) (rest : List Point) (i : ℕ) (d : Point) (odd odd' : Bool) (all : ℕ) → i < length rest → meets_ray p (record { from = a; to = get_or rest i d }) ≡ false → odd' ≡ odd → (cond odd 1 0 + crossings p (edges_from a (drop i rest))) % 2 ≡ all → (cond odd' 1 0 + crossings p (edges_from (get_or rest i d) (drop (i + 1) rest))) % 2 ≡ all
chain_missed p a rest i d odd odd' all within missed e h =
    let b = get_or rest i d in
    let after = crossings p (edges_from b (drop (i + 1) rest)) in
    let split : crossings p (edges_from a (drop i rest)) ≡ 0 + after = ap (λ xs. crossings p (edges_from a xs)) (drop_at rest i b d within refl) ∙ crossings-cons p (record { from = a; to = b }) (edges_from b (drop (i + 1) rest)) false missed in
    rw e (kept odd 0 after all refl (rw split at h))

-- the same of items that have some edges each
items_split : {X : Type 0} (f : X → List Edge) (p : Point) (xs : List X) (i : ℕ) (x d : X) → i < length xs → get_or xs i d ≡ x → crossings p (flat_map f (drop i xs)) ≡ crossings p (f x) + crossings p (flat_map f (drop (i + 1) xs))
items_split f p xs i x d within at = ap (λ ys. crossings p (flat_map f ys)) (drop_at xs i x d within at) ∙ sum_by-append (λ edge. cond (meets_ray p edge) 1 0) (f x) (flat_map f (drop (i + 1) xs))

-- a fact that a test decides, where it failed
even_from : (n : ℕ) → ¬ (n % 2 ≡ 1) → n % 2 ≡ 0
even_from n h = omega arith

pub items_odd : {X : Type 0} (f : X → List Edge) (p : Point) (xs : List X) (i : ℕ) (x d : X) (odd odd' : Bool) (all : ℕ) → i < length xs → get_or xs i d ≡ x → crossings p (f x) % 2 ≡ 1 → odd' ≡ not odd → (cond odd 1 0 + crossings p (flat_map f (drop i xs))) % 2 ≡ all → (cond odd' 1 0 + crossings p (flat_map f (drop (i + 1) xs))) % 2 ≡ all
items_odd f p xs i x d odd odd' all within at some e h = rw e (turned odd (crossings p (f x)) (crossings p (flat_map f (drop (i + 1) xs))) all some (rw (items_split f p xs i x d within at) at h))

pub items_even : {X : Type 0} (f : X → List Edge) (p : Point) (xs : List X) (i : ℕ) (x d : X) (odd odd' : Bool) (all : ℕ) → i < length xs → get_or xs i d ≡ x → ¬ (crossings p (f x) % 2 ≡ 1) → odd' ≡ odd → (cond odd 1 0 + crossings p (flat_map f (drop i xs))) % 2 ≡ all → (cond odd' 1 0 + crossings p (flat_map f (drop (i + 1) xs))) % 2 ≡ all
items_even f p xs i x d odd odd' all within at none e h = rw e (kept odd (crossings p (f x)) (crossings p (flat_map f (drop (i + 1) xs))) all (even_from (crossings p (f x)) none) (rw (items_split f p xs i x d within at) at h))

-- ---- two parts

odd_sum : (a b : Bool) (m n : ℕ) → IsTrue a ↔ (m % 2 ≡ 1) → IsTrue b ↔ (n % 2 ≡ 1) → IsTrue (not (beq a b)) ↔ ((m + n) % 2 ≡ 1)
odd_sum true true m n f g = (λ t. absurd (false≢true t), λ odd. absurd (omega (arith, f.0 refl, g.0 refl, odd)))
odd_sum true false m n f g = let even : ¬ (n % 2 ≡ 1) = λ h. false≢true (g.1 h) in (λ _. omega (arith, f.0 refl, even), λ _. refl)
odd_sum false true m n f g = let even : ¬ (m % 2 ≡ 1) = λ h. false≢true (f.1 h) in (λ _. omega (arith, g.0 refl, even), λ _. refl)
odd_sum false false m n f g =
    let even : ¬ (m % 2 ≡ 1) = λ h. false≢true (f.1 h) in
    let even_too : ¬ (n % 2 ≡ 1) = λ h. false≢true (g.1 h) in
    (λ t. absurd (false≢true t), λ odd. absurd (omega (arith, even, even_too, odd)))

-- the parity of a row of edges from that of its parts
pub odd_parts : (p : Point) (whole front back : List Edge) (a b : Bool) → whole ≡ front ++ back → IsTrue a ↔ (crossings p front % 2 ≡ 1) → IsTrue b ↔ (crossings p back % 2 ≡ 1) → IsTrue (not (beq a b)) ↔ (crossings p whole % 2 ≡ 1)
odd_parts p whole front back a b e f g =
    let total : crossings p whole ≡ crossings p front + crossings p back = ap (crossings p) e ∙ sum_by-append (λ edge. cond (meets_ray p edge) 1 0) front back in
    rw total (odd_sum a b (crossings p front) (crossings p back) f g)
