-- What a listed potential is worth.
use Rattle.std.proofs.Common.{◌≡◌, ◌≢◌, ℕ, ◌<◌, ◌≤◌, Result, Ok, Err, MatchResult, List, [], ◌∷◌, zero, suc, length, get_or, map, refl, sym, subst, ap, ◌∙◌, arith, inl, inr}
use Rattle.std.specs.Prelude.{Contains}
use Rattle.std.specs.List.Sorted.{IsStrictlySortedBy, IsNonDecreasingBy, IsNonDecreasing, IsSearchInRange, IsBinarySearchResult}
use Rattle.std.specs.Ordering.{nat_cmp, ordering_index}
use Rattle.std.proofs.lemmas.Bool.Decides.{eqb_tells, leb_tells, nat_tests}
use Rattle.std.proofs.lemmas.Cmp.{ranked}
use Rattle.std.proofs.lemmas.List.Elements.{Contains-get_or}
use Rattle.std.proofs.lemmas.List.{get_or-map, length-map}
use Rattle.std.proofs.lemmas.Map.Keys.{sorted_from_strictly_increasing, below_from_sorted, sorted_tail, non_decreasing_from_sorted}
use Rattle.walk_laws.specs.Views.{PotentialView}
use Rattle.walk_laws.specs.Certificates.{potential, Ascends}

-- a node that is not listed has the cost of the answer
pub potential-unlisted : {P : Type 0} (view : PotentialView P) (cost : ℕ) (ps : List P) (node : ℕ)
    → ((p : P) → Contains ps p → view.node p ≢ node) → potential view cost ps node ≡ cost
potential-unlisted view cost [] node none = refl
potential-unlisted view cost (q ∷ ps) node none =
    let further = potential-unlisted view cost ps node (λ p at. none p (suc at.0, omega (arith, at.1), at.2)) in
    elim (eqb_tells (view.node q) node) [
      | inl here ↦ absurd (none q (0, omega arith, refl) here.1)
      | inr other ↦ rw other.0 further
    ]

-- a node behind the first of a list that ascends is above it
above_first : {P : Type 0} (view : PotentialView P) (q : P) (ps : List P) (p : P) (k : ℕ) → k < length ps → get_or ps k p ≡ p
    → IsStrictlySortedBy nat_cmp (map view.node (q ∷ ps)) → view.node q < view.node p
above_first view q ps p k within is sorted =
    let same : get_or (map view.node ps) k 0 ≡ view.node p = get_or-map view.node ps k p 0 within ∙ ap view.node is in
    let rises : view.node q < get_or (map view.node ps) k 0 = below_from_sorted (map view.node (q ∷ ps)) 0 (suc k) 0 sorted (omega arith) (simp length-map (omega arith)) in
    omega arith

sorted_listed : {P : Type 0} (view : PotentialView P) (cost : ℕ) (ps : List P) (p : P)
    → IsStrictlySortedBy nat_cmp (map view.node ps) → Contains ps p → potential view cost ps (view.node p) ≡ view.value p
sorted_listed view cost [] p sorted listed = absurd (omega (arith, listed.1))
sorted_listed view cost (q ∷ ps) p sorted (zero, within, is) =
    elim (eqb_tells (view.node q) (view.node p)) [
      | inl here ↦ rw here.0 (ap view.value is)
      | inr other ↦ absurd (other.1 (ap view.node is))
    ]
sorted_listed view cost (q ∷ ps) p sorted (suc k, within, is) =
    let above : view.node q < view.node p = above_first view q ps p k (omega arith) is sorted in
    let further = sorted_listed view cost ps p (sorted_tail nat_cmp (view.node q) (map view.node ps) sorted) (k, omega arith, is) in
    elim (eqb_tells (view.node q) (view.node p)) [
      | inl here ↦ absurd (omega (arith, above, here.1))
      | inr other ↦ rw other.0 further
    ]

-- in a list that ascends, each node has its value
pub potential-listed : {P : Type 0} (view : PotentialView P) (cost : ℕ) (ps : List P) (p : P)
    → Ascends view ps → Contains ps p → potential view cost ps (view.node p) ≡ view.value p
potential-listed view cost ps p ascends listed = sorted_listed view cost ps p (sorted_from_strictly_increasing (map view.node ps) ascends) listed

-- in a list that ascends, nodes rise
nodes_rise : {P : Type 0} (view : PotentialView P) (ps : List P) → Ascends view ps → IsNonDecreasingBy view.node ps
nodes_rise view ps ascends i j d before within =
    let up : IsNonDecreasing (map view.node ps) = non_decreasing_from_sorted (map view.node ps) (sorted_from_strictly_increasing (map view.node ps) ascends) in
    let rise : get_or (map view.node ps) i 0 ≤ get_or (map view.node ps) j 0 = up i j 0 before (simp length-map within) in
    let at_i : get_or (map view.node ps) i 0 ≡ view.node (get_or ps i d) = get_or-map view.node ps i d 0 (omega arith) in
    let at_j : get_or (map view.node ps) j 0 ≡ view.node (get_or ps j d) = get_or-map view.node ps j d 0 within in
    omega arith

compared : (a b node : ℕ) → a ≤ b → ordering_index (nat_cmp a node) ≤ ordering_index (nat_cmp b node)
compared a b node below = grind (arith, nat_tests)

-- what a binary search by node tells: the value at the place that it found, or the cost of the answer
pub potential-searched : {P : Type 0} (view : PotentialView P) (cost : ℕ) (ps : List P) (node : ℕ) (r : Result ℕ ℕ)
    → Ascends view ps → IsSearchInRange r (length ps) → IsBinarySearchResult (λ p. nat_cmp (view.node p) node) ps r
    → MatchResult r (λ i. (d : P) → potential view cost ps node ≡ view.value (get_or ps i d)) (λ i. potential view cost ps node ≡ cost)
potential-searched view cost ps node (Ok i) ascends within is = λ d.
    let same : view.node (get_or ps i d) ≡ node = ranked _ node _ (sym (is d)) in
    subst (λ (n : ℕ). potential view cost ps n ≡ view.value (get_or ps i d)) same
    (potential-listed view cost ps (get_or ps i d) ascends (Contains-get_or ps i d within))
potential-searched view cost ps node (Err i) ascends within is =
    let parted = is (λ i j d before within. compared _ _ node (nodes_rise view ps ascends i j d before within)) in
    potential-unlisted view cost ps node (λ p at same.
    let here : view.node (get_or ps at.0 p) ≡ node = ap view.node at.2 ∙ same in
    elim (leb_tells i at.0) [
      | inl past ↦ let above : node < view.node (get_or ps at.0 p) = ranked _ node _ (sym (parted.1 at.0 p past.1 at.1)) in omega arith
      | inr before ↦ let below : view.node (get_or ps at.0 p) < node = ranked _ node _ (sym (parted.0 at.0 p (omega arith) before.1)) in omega arith
    ])
