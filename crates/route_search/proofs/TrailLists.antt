-- The nodes that cost less, listed one by one.
use Rattle.std.proofs.Common.{◌≡◌, inl, inr, ℕ, ◌+◌, ◌<◌, ◌≤◌, List, [], ◌∷◌, ◌++◌, length, map, get_or, refl, sym, ap, subst, arith}
use Rattle.std.specs.Prelude.{Contains}
use Rattle.std.specs.List.Sorted.{IsStrictlyIncreasing}
use Rattle.std.proofs.lemmas.Bool.{cases_lt}
use Rattle.std.proofs.lemmas.List.{length-map, get_or-map, map-append, get_or_past, get_or_default}
use Rattle.std.proofs.lemmas.List.Elements.{Contains-append_left, Contains-push, Contains-push_cases, Contains-get_or}
use Rattle.venue_types.specs.declared.link.Potential.{Potential}
use Rattle.venue_types.proofs.Items.{IsStrictlyIncreasing-push}
use Rattle.link_graph.specs.Views.{potential_view}
use Rattle.route_search.specs.Labels.{cost_at, no_cost}
use Rattle.route_search.specs.Trails.{AreNodesBelow, IsPotentialBelow, ArePotentialsBelow}

-- what is read at a place is what it costs
pub cost_read : (costs : List ℕ) (n : ℕ) → n < length costs → cost_at costs n ≡ get_or costs n 0
unfolding cost_at
cost_read costs n within = get_or_default costs n no_cost 0 within

-- only a place of the list costs less than none
pub cost_within : (costs : List ℕ) (limit n : ℕ) → limit ≤ no_cost → cost_at costs n < limit → n < length costs
unfolding cost_at
cost_within costs limit n most less = elim (cases_lt n (length costs)) [
  | inl within ↦ within
  | inr past ↦ let none : get_or costs n no_cost ≡ no_cost = get_or_past costs n no_cost past in absurd (omega (arith, none, less, most))
]

-- a number past the list costs none
pub cost_past : (costs : List ℕ) (n : ℕ) → length costs ≤ n → cost_at costs n ≡ no_cost
unfolding cost_at
cost_past costs n past = get_or_past costs n no_cost past

-- ---- nodes

-- a node that costs no less is left out
pub nodes_skip : (costs : List ℕ) (limit k : ℕ) (ns : List ℕ) → limit ≤ cost_at costs k → AreNodesBelow costs limit k ns → AreNodesBelow costs limit (k + 1) ns
nodes_skip costs limit k ns dear are = record {
  only = λ n h. let was = are.only n h in (omega (arith, was.0), was.1);
  all = λ n below less. elim (cases_lt n k) [
    | inl before ↦ are.all n before less
    | inr last ↦ let here : cost_at costs n ≡ cost_at costs k = ap (cost_at costs) (omega arith) in absurd (omega (arith, here, less, dear))
  ];
  rising = are.rising;
}

-- one that costs less is added
pub nodes_push : (costs : List ℕ) (limit k : ℕ) (ns : List ℕ) → cost_at costs k < limit → AreNodesBelow costs limit k ns → AreNodesBelow costs limit (k + 1) (ns ++ k ∷ [])
nodes_push costs limit k ns cheap are = record {
  only = λ n h. elim (Contains-push_cases ns k n h) [
    | inl was ↦ let old = are.only n was in (omega (arith, old.0), old.1)
    | inr here ↦ (omega (arith, here), subst (λ (m : ℕ). cost_at costs m < limit) here cheap)
  ];
  all = λ n below less. elim (cases_lt n k) [
    | inl before ↦ Contains-append_left ns (k ∷ []) n (are.all n before less)
    | inr last ↦ let here : k ≡ n = omega arith in subst (Contains (ns ++ k ∷ [])) here (Contains-push ns k)
  ];
  rising = IsStrictlyIncreasing-push ns k are.rising (λ i within. (are.only (get_or ns i 0) (Contains-get_or ns i 0 within)).0);
}

-- ---- potentials

-- a node that costs no less is left out
pub potentials_skip : (costs : List ℕ) (limit k : ℕ) (ps : List Potential) → limit ≤ cost_at costs k → ArePotentialsBelow costs limit k ps → ArePotentialsBelow costs limit (k + 1) ps
potentials_skip costs limit k ps dear are = record {
  only = λ p h. let was = are.only p h in record { node = omega (arith, was.node); value = was.value; below = was.below };
  all = λ n below less. elim (cases_lt n k) [
    | inl before ↦ are.all n before less
    | inr last ↦ let here : cost_at costs n ≡ cost_at costs k = ap (cost_at costs) (omega arith) in absurd (omega (arith, here, less, dear))
  ];
  rising = are.rising;
}

abbrev potential_at : List ℕ → ℕ → Potential
potential_at costs n = record { node = n; value = cost_at costs n }

-- all listed nodes are below the next
nodes_under : (costs : List ℕ) (limit k : ℕ) (ps : List Potential) → ArePotentialsBelow costs limit k ps → (i : ℕ) → i < length (map potential_view.node ps) → get_or (map potential_view.node ps) i 0 < k
nodes_under costs limit k ps are i within =
    let d : Potential = record { node = 0; value = 0 } in
    let inside : i < length ps = subst (λ (n : ℕ). i < n) (length-map ps potential_view.node) within in
    let is : get_or (map potential_view.node ps) i 0 ≡ (get_or ps i d).node = get_or-map potential_view.node ps i d 0 inside in
    let under : (get_or ps i d).node < k = (are.only (get_or ps i d) (Contains-get_or ps i d inside)).node in
    omega (arith, is, under)

-- one that costs less is added
pub potentials_push : (costs : List ℕ) (limit k : ℕ) (ps : List Potential) → cost_at costs k < limit → ArePotentialsBelow costs limit k ps → ArePotentialsBelow costs limit (k + 1) (ps ++ potential_at costs k ∷ [])
potentials_push costs limit k ps cheap are = record {
  only = λ p h. elim (Contains-push_cases ps (potential_at costs k) p h) [
    | inl was ↦ let old = are.only p was in record { node = omega (arith, old.node); value = old.value; below = old.below }
    | inr here ↦ subst (IsPotentialBelow costs limit (k + 1)) here (record { node = omega arith; value = refl; below = cheap })
  ];
  all = λ n below less. elim (cases_lt n k) [
    | inl before ↦ Contains-append_left ps (potential_at costs k ∷ []) (potential_at costs n) (are.all n before less)
    | inr last ↦
        let here : k ≡ n = omega arith in
        subst (λ (m : ℕ). Contains (ps ++ potential_at costs k ∷ []) (potential_at costs m)) here (Contains-push ps (potential_at costs k))
  ];
  rising =
      let whole : map potential_view.node (ps ++ potential_at costs k ∷ []) ≡ map potential_view.node ps ++ k ∷ [] = map-append potential_view.node ps (potential_at costs k ∷ []) in
      subst IsStrictlyIncreasing (sym whole) (IsStrictlyIncreasing-push (map potential_view.node ps) k are.rising (nodes_under costs limit k ps are));
}
