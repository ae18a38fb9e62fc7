-- Sums over the nodes that aren't settled.
use Rattle.std.proofs.Common.{◌≡◌, ◌≢◌, ℕ, zero, suc, ◌+◌, ◌<◌, ◌≤◌, ◌==◌, Bool, true, false, cond, List, [], ◌∷◌, length, filter, set, get_or, replicate, refl, ap, subst, arith, inl, inr}
use Rattle.std.proofs.lemmas.Bool.{cases_eq}
use Rattle.std.proofs.lemmas.Bool.Decides.{nat_tests}
use Rattle.venue_types.specs.declared.link.Link.{Link}
use Rattle.link_graph.specs.Networks.{Network, links_out}
use Rattle.route_search.specs.States.{settled_at, open_sum}

-- ---- settling a node takes its number from the sum

open_sum-get_or : (count : ℕ → ℕ) (i n : ℕ) (bs : List Bool) → n < length bs → get_or bs n false ≡ false → open_sum count i (set bs n true) + count (i + n) ≡ open_sum count i bs
unfolding open_sum
open_sum-get_or count i n [] within is = absurd (omega arith)
open_sum-get_or count i zero (true ∷ bs) within is = absurd cc
open_sum-get_or count i zero (false ∷ bs) within is =
    let place : count (i + 0) ≡ count i = ap count (omega arith) in
    omega arith
open_sum-get_or count i (suc n) (b ∷ bs) within is =
    let rest = open_sum-get_or count (suc i) n bs (omega arith) is in
    let place : count (suc i + n) ≡ count (i + suc n) = ap count (omega arith) in
    omega arith

pub open_sum-settle : (count : ℕ → ℕ) (n : ℕ) (settled : List Bool) → n < length settled → settled_at settled n ≡ false → open_sum count 0 (set settled n true) + count n ≡ open_sum count 0 settled
unfolding settled_at
open_sum-settle count n settled within is =
    let place : count (0 + n) ≡ count n = ap count (omega arith) in
    subst (λ (k : ℕ). open_sum count 0 (set settled n true) + k ≡ open_sum count 0 settled) place (open_sum-get_or count 0 n settled within is)

-- ---- the sum at first

open_sum-ones : (i n : ℕ) → open_sum (λ _. 1) i (replicate n false) ≡ n
unfolding open_sum
open_sum-ones i zero = refl
open_sum-ones i (suc n) = let rest = open_sum-ones (suc i) n in omega arith

pub ones_begun : (n : ℕ) → open_sum (λ _. 1) 0 (replicate n false) ≡ n
ones_begun n = open_sum-ones 0 n

-- ---- each link starts at one node

open_sum-add : (f g h : ℕ → ℕ) (i : ℕ) (bs : List Bool) → ((n : ℕ) → f n ≤ g n + h n) → open_sum f i bs ≤ open_sum g i bs + open_sum h i bs
unfolding open_sum
open_sum-add f g h i [] each = omega arith
open_sum-add f g h i (true ∷ bs) each = let rest = open_sum-add f g h (suc i) bs each in omega arith
open_sum-add f g h i (false ∷ bs) each = let rest = open_sum-add f g h (suc i) bs each in let one = each i in omega arith

open_sum-zero : (i : ℕ) (bs : List Bool) → open_sum (λ _. 0) i bs ≡ 0
unfolding open_sum
open_sum-zero i [] = refl
open_sum-zero i (true ∷ bs) = let rest = open_sum-zero (suc i) bs in omega arith
open_sum-zero i (false ∷ bs) = let rest = open_sum-zero (suc i) bs in omega arith

abbrev one_at : ℕ → ℕ → ℕ
one_at k n = cond (k == n) 1 0

one_past : (k n : ℕ) → k < n → one_at k n ≡ 0
one_past k n past = grind (arith, nat_tests)

one_most : (k n : ℕ) → one_at k n ≤ 1
one_most k n = grind (arith, nat_tests)

one_other : (k n : ℕ) → k ≢ n → one_at k n ≡ 0
one_other k n other = grind (arith, nat_tests)

open_sum-past : (k i : ℕ) (bs : List Bool) → k < i → open_sum (one_at k) i bs ≡ 0
unfolding open_sum
open_sum-past k i [] past = refl
open_sum-past k i (true ∷ bs) past = let rest = open_sum-past k (suc i) bs (omega arith) in omega arith
open_sum-past k i (false ∷ bs) past = let rest = open_sum-past k (suc i) bs (omega arith) in let here = one_past k i past in omega (arith, here, rest)

open_sum-one : (k i : ℕ) (bs : List Bool) → open_sum (one_at k) i bs ≤ 1
unfolding open_sum
open_sum-one k i [] = omega arith
open_sum-one k i (true ∷ bs) = let rest = open_sum-one k (suc i) bs in omega arith
open_sum-one k i (false ∷ bs) = elim (cases_eq k i) [
  | inl same ↦ (let rest = open_sum-past k (suc i) bs (omega arith) in let here = one_most k i in omega (arith, here, rest))
  | inr other ↦ (let rest = open_sum-one k (suc i) bs in let here = one_other k i other in omega (arith, here, rest))
]

kept_one : (b : Bool) (link : Link) (kept : List Link) → length (cond b (link ∷ kept) kept) ≤ length kept + cond b 1 0
kept_one true link kept = omega arith
kept_one false link kept = omega arith

abbrev starting : List Link → ℕ → ℕ
starting links n = length (filter (λ (link : Link). link.from == n) links)

starting_more : (link : Link) (links : List Link) (n : ℕ) → starting (link ∷ links) n ≤ starting links n + one_at link.from n
starting_more link links n = kept_one (link.from == n) link (filter (λ (l : Link). l.from == n) links)

starting_all : (links : List Link) (bs : List Bool) → open_sum (starting links) 0 bs ≤ length links
starting_all [] bs = let none : open_sum (starting []) 0 bs ≡ 0 = open_sum-zero 0 bs in omega arith
starting_all (link ∷ links) bs =
    let rest = starting_all links bs in
    let more = open_sum-add (starting (link ∷ links)) (starting links) (one_at link.from) 0 bs (starting_more link links) in
    let one = open_sum-one link.from 0 bs in
    omega arith

pub out_sum : (given : Network) (bs : List Bool) → open_sum (λ (n : ℕ). length (links_out given n)) 0 bs ≤ length given.links
out_sum given bs = starting_all given.links bs
