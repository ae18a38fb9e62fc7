-- What is handed out of known costs.
use Rattle.std.proofs.Common.{◌≡◌, inl, inr, ℕ, ◌<◌, ◌≤◌, min, List, Option, Some, None, refl, sym, ap, subst, ◌∙◌, arith}
use Rattle.std.proofs.lemmas.Bool.Decides.{leb_tells}
use Rattle.std.proofs.lemmas.Bool.{cases_lt}
use Rattle.venue_types.specs.declared.link.Link.{Link}
use Rattle.walk_laws.specs.Reaches.{cost_or, IsWithin, Rises, IsReach}
use Rattle.link_graph.specs.Views.{link_view}
use Rattle.route_search.specs.declared.labels.Last.{Last}
use Rattle.route_search.specs.Labels.{no_cost, cost_at, IsTree, IsLabelled, IsFound, IsSpent, AreOver}
use Rattle.route_search.specs.Handed.{most, handed}
use Rattle.route_search.proofs.TrailWalks.{known_walk}

-- a cost of at most the bound is handed out
pub handed_within : (bound : Option ℕ) (cost : ℕ) → cost ≤ most bound → handed bound cost ≡ Some cost
unfolding handed
handed_within bound cost low = elim (leb_tells cost (most bound)) [
  | inl within ↦ rw within.0 refl
  | inr past ↦ absurd (omega (arith, past.1))
]

-- one above it isn't
pub handed_past : (bound : Option ℕ) (cost : ℕ) → most bound < cost → handed bound cost ≡ None
unfolding handed
handed_past bound cost high = elim (leb_tells cost (most bound)) [
  | inl within ↦ absurd (omega (arith, within.1))
  | inr past ↦ rw past.0 refl
]

-- what is handed out is the cost, which is at most the bound
pub handed_some : (bound : Option ℕ) (cost c : ℕ) → handed bound cost ≡ Some c → (c ≡ cost) × (cost ≤ most bound)
handed_some bound cost c some = elim (cases_lt (most bound) cost) [
  | inl high ↦ (let never : None ≡ Some c = sym (handed_past bound cost high) ∙ some in absurd cc)
  | inr low ↦ (let same : Some c ≡ Some cost = sym some ∙ handed_within bound cost (omega arith) in (cc, omega arith))
]

-- with the bound as the value of nodes without a cost
handed_or : (bound cost : ℕ) → cost_or bound (handed (Some bound) cost) ≡ min cost bound
handed_or bound cost = elim (cases_lt bound cost) [
  | inl high ↦ (let here : cost_or bound (handed (Some bound) cost) ≡ bound = ap (cost_or bound) (handed_past (Some bound) cost high) in omega (arith, here, high))
  | inr low ↦ (let here : cost_or bound (handed (Some bound) cost) ≡ cost = ap (cost_or bound) (handed_within (Some bound) cost (omega arith)) in omega (arith, here, low))
]

most_within : (bound : Option ℕ) (cost : ℕ) → cost ≤ most bound → IsWithin bound cost
most_within None cost low = tt
most_within (Some bound) cost low = low

-- a cost that is handed out is within the bound
pub some_within : (bound : Option ℕ) (cost c : ℕ) → handed bound cost ≡ Some c → IsWithin bound c
some_within bound cost c some = let (same, low) = handed_some bound cost c some in most_within bound c (omega arith)

-- what is below a limit within the bound is handed out
pub below_handed : (bound : Option ℕ) (limit cost : ℕ) → IsWithin bound limit → cost < limit → cost < no_cost → handed bound cost ≡ Some cost
below_handed None limit cost within less known = handed_within None cost (omega arith)
below_handed (Some bound) limit cost within less known = handed_within (Some bound) cost (omega arith)

-- where there is no bound, each known cost is handed out
pub known_handed : (bound : Option ℕ) (cost : ℕ) → bound ≡ None → cost < no_cost → handed bound cost ≡ Some cost
known_handed bound cost none known = subst (λ (o : Option ℕ). handed o cost ≡ Some cost) (sym none) (handed_within None cost (omega arith))

module _ (IsLink : Link → Type 0) (nodes from : ℕ) (costs : List ℕ) (lasts : List Last) (tree : IsTree nodes from costs lasts) where
  rises : (bound : Option ℕ) → ((cost : ℕ) → bound ≡ Some cost → IsFound IsLink cost costs lasts) → (bound ≡ None → IsSpent IsLink costs lasts)
      → Rises link_view IsLink bound (λ n. handed bound (cost_at costs n))
  rises None found spent = λ link cost is some.
      let (same, low) = handed_some None (cost_at costs link.from) cost some in
      let known : IsLabelled costs link.from = omega arith in
      let all = spent refl in
      let there : cost_at costs link.to < no_cost = all.closed link is known in
      (cost_at costs link.to, handed_within None (cost_at costs link.to) (omega arith), omega (arith, all.relaxed link is known, same))
  rises (Some bound) found spent = λ link is.
      let at_from = handed_or bound (cost_at costs link.from) in
      let at_to = handed_or bound (cost_at costs link.to) in
      elim (cases_lt (cost_at costs link.from) bound) [
        | inl less ↦ omega (arith, at_from, at_to, less, (found bound refl).relaxed link is less)
        | inr more ↦ omega (arith, at_from, at_to, more)
      ]

  -- what is handed out is what a search knows
  pub is_reach : (bound : Option ℕ) → most bound < no_cost → AreOver IsLink costs lasts → ((cost : ℕ) → bound ≡ Some cost → IsFound IsLink cost costs lasts) → (bound ≡ None → IsSpent IsLink costs lasts)
      → IsReach link_view IsLink from bound (λ n. handed bound (cost_at costs n))
  is_reach bound near over found spent = record {
    start = handed_within bound (cost_at costs from) (omega (arith, tree.start)) ∙ ap Some tree.start;
    walks = λ n cost some.
        (let (same, low) = handed_some bound (cost_at costs n) cost some in
        let known : IsLabelled costs n = omega arith in
        let (walk, leads, sum) = known_walk IsLink nodes from costs lasts n tree over known in
        (walk, leads, omega (arith, sum, same)));
    low = λ n cost some. some_within bound (cost_at costs n) cost some;
    rises = rises bound found spent;
  }
