-- What a search knows at its end, and what follows of walks.
use Rattle.std.proofs.Common.{◌≡◌, ◌⊎◌, ◌↔◌, ℕ, ◌+◌, ◌≤◌, min, List, Option, Some, None, refl, sym, subst, ap, ◌∙◌, arith, inl, inr}
use Rattle.std.specs.Prelude.{Contains}
use Rattle.std.proofs.lemmas.Bool.{cases_lt}
use Rattle.walk_laws.specs.Views.{LinkView, PotentialView}
use Rattle.walk_laws.specs.Walks.{IsWalk, walk_cost, CostsAtLeast, HasWalk, IsLeast}
use Rattle.walk_laws.specs.Certificates.{potential, IsCertificate, IsCut}
use Rattle.walk_laws.specs.Reaches.{cost_or, lesser, IsWithin, HasCost, Rises, IsReach, AreBelow}
use Rattle.walk_laws.proofs.Theorems.{certifies, rises_by_cost, stays_among}
use Rattle.walk_laws.proofs.Potentials.{potential-listed, potential-unlisted}

-- a node has a cost or none
cases_cost : (cost : Option ℕ) → (cost ≡ None) ⊎ ((c : ℕ) × (cost ≡ Some c))
cases_cost None = inl refl
cases_cost (Some c) = inr (c, refl)

-- up to a limit within the bound, the lesser of limit and cost rises along a link by no more than the link costs
lesser_rises : {L : Type 0} (view : LinkView L) (IsLink : L → Type 0) (bound : Option ℕ) (cost_of : ℕ → Option ℕ) (limit : ℕ)
    → Rises view IsLink bound cost_of → IsWithin bound limit
    → (link : L) → IsLink link → lesser limit (cost_of (view.to link)) ≤ lesser limit (cost_of (view.from link)) + view.cost link
lesser_rises view IsLink None cost_of limit rises within link is = elim (cases_cost (cost_of (view.from link))) [
  | inl none ↦ (let here : lesser limit (cost_of (view.from link)) ≡ limit = ap (lesser limit) none ∙ (omega arith) in omega arith)
  | inr (c, some) ↦
      (let (end, there, low) = rises link c is some in
      let here : lesser limit (cost_of (view.from link)) ≡ min limit c = ap (lesser limit) some in
      let further : lesser limit (cost_of (view.to link)) ≡ min limit end = ap (lesser limit) there in
      omega arith)
]
lesser_rises view IsLink (Some bound) cost_of limit rises within link is =
    let low = rises link is in
    let at : (cost : Option ℕ) → lesser limit cost ≡ min limit (cost_or bound cost) = elim [ None ↦ omega arith | Some c ↦ refl ] in
    omega (arith, at (cost_of (view.from link)), at (cost_of (view.to link)))

-- so they are a certificate for each node that costs at most the limit
pub reach_certificate : {L : Type 0} (view : LinkView L) (IsLink : L → Type 0) (from n cost limit : ℕ) (bound : Option ℕ) (cost_of : ℕ → Option ℕ)
    → IsReach view IsLink from bound cost_of → IsWithin bound limit → cost_of n ≡ Some cost → cost ≤ limit
    → IsCertificate view IsLink from n cost (λ m. lesser limit (cost_of m))
reach_certificate view IsLink from n cost limit bound cost_of knows within there low =
    let first : lesser limit (cost_of from) ≡ min limit 0 = ap (lesser limit) knows.start in
    let last : lesser limit (cost_of n) ≡ min limit cost = ap (lesser limit) there in
    record {
      starts = omega (arith, first);
      ends = omega (arith, last);
      links = lesser_rises view IsLink bound cost_of limit knows.rises within;
    }

-- the bound itself is within the bound
bound_within : (bound : Option ℕ) (cost : ℕ) → IsWithin bound cost → (limit : ℕ) × IsWithin bound limit × (cost ≤ limit)
bound_within None cost within = (cost, tt, omega arith)
bound_within (Some bound) cost within = (bound, omega arith, within)

-- no walk to a node costs less than its cost
costs_least : {L : Type 0} (view : LinkView L) (IsLink : L → Type 0) (from n cost : ℕ) (bound : Option ℕ) (cost_of : ℕ → Option ℕ)
    → IsReach view IsLink from bound cost_of → cost_of n ≡ Some cost → CostsAtLeast view IsLink from n cost
costs_least view IsLink from n cost bound cost_of knows there =
    let (limit, within, low) = bound_within bound cost (knows.low n cost there) in
    certifies view IsLink from n cost (λ m. lesser limit (cost_of m)) (reach_certificate view IsLink from n cost limit bound cost_of knows within there low)

pub reach_least : {L : Type 0} (view : LinkView L) (IsLink : L → Type 0) (from n cost : ℕ) (bound : Option ℕ) (cost_of : ℕ → Option ℕ) (walk : List L)
    → IsReach view IsLink from bound cost_of → cost_of n ≡ Some cost → IsWalk view IsLink from n walk → walk_cost view walk ≡ cost → IsLeast view IsLink from n walk cost
reach_least view IsLink from n cost bound cost_of walk knows there leads costs =
    record { leads = leads; costs = costs; least = costs_least view IsLink from n cost bound cost_of knows there }

pub reach_has_least : {L : Type 0} (view : LinkView L) (IsLink : L → Type 0) (from n cost : ℕ) (bound : Option ℕ) (cost_of : ℕ → Option ℕ)
    → IsReach view IsLink from bound cost_of → cost_of n ≡ Some cost → (walk : List L) × IsLeast view IsLink from n walk cost
reach_has_least view IsLink from n cost bound cost_of knows there =
    let (walk, leads, costs) = knows.walks n cost there in
    (walk, reach_least view IsLink from n cost bound cost_of walk knows there leads costs)

-- to a node without a cost no walk costs less than the bound
pub reach_beyond : {L : Type 0} (view : LinkView L) (IsLink : L → Type 0) (from n bound : ℕ) (cost_of : ℕ → Option ℕ)
    → IsReach view IsLink from (Some bound) cost_of → cost_of n ≡ None → CostsAtLeast view IsLink from n bound
reach_beyond view IsLink from n bound cost_of knows none walk leads =
    let rises = rises_by_cost view IsLink (λ m. lesser bound (cost_of m)) (lesser_rises view IsLink (Some bound) cost_of bound knows.rises (omega arith)) from n walk leads in
    let first : lesser bound (cost_of from) ≡ min bound 0 = ap (lesser bound) knows.start in
    let last : lesser bound (cost_of n) ≡ min bound bound = ap (lesser bound) none in
    omega (arith, rises, first, last)

-- where there is no bound, costs are those of the nodes to which a walk leads
pub reach_reached : {L : Type 0} (view : LinkView L) (IsLink : L → Type 0) (from n : ℕ) (cost_of : ℕ → Option ℕ)
    → IsReach view IsLink from None cost_of → HasCost cost_of n ↔ HasWalk view IsLink from n
reach_reached view IsLink from n cost_of knows = (
  (λ has. (let (walk, leads, costs) = knows.walks n has.0 has.1 in (walk, leads))),
  (λ leads. stays_among view IsLink (HasCost cost_of) (λ link is has. (let (end, there, low) = knows.rises link has.0 is has.1 in (end, there))) from n leads.0 leads.1 (0, knows.start)),
)

pub reach_cut : {L : Type 0} (view : LinkView L) (IsLink : L → Type 0) (from n : ℕ) (cost_of : ℕ → Option ℕ) (reached : List ℕ)
    → IsReach view IsLink from None cost_of → ((m : ℕ) → Contains reached m ↔ HasCost cost_of m) → cost_of n ≡ None → IsCut view IsLink from n reached
reach_cut view IsLink from n cost_of reached knows exact none = record {
  starts = (exact from).1 (0, knows.start);
  ends = λ has. (let (cost, some) = (exact n).0 has in let never : None ≡ Some cost = sym none ∙ some in absurd cc);
  links = λ link is has.
      (let (cost, some) = (exact (view.from link)).0 has in
      let (end, there, low) = knows.rises link cost is some in
      (exact (view.to link)).1 (end, there));
}

-- ---- listed

-- the potential of a node is the lesser of the limit and its cost
pub below_lesser : {P : Type 0} (view : PotentialView P) (cost_of : ℕ → Option ℕ) (limit n : ℕ) (listed : List P)
    → AreBelow view cost_of limit listed → potential view limit listed n ≡ lesser limit (cost_of n)
below_lesser view cost_of limit n listed are =
    let missing : ((cost : ℕ) → cost_of n ≡ Some cost → limit ≤ cost) → potential view limit listed n ≡ limit
    = λ dear. potential-unlisted view limit listed n (λ p has same.
    (let (told, less) = are.only p has in
    let here : cost_of n ≡ Some (view.value p) = ap cost_of (sym same) ∙ told in
    let more = dear (view.value p) here in
    absurd (omega arith))) in
    elim (cases_cost (cost_of n)) [
      | inl none ↦
          (let free = missing (λ cost some. (let never : None ≡ Some cost = sym none ∙ some in absurd cc)) in
          let worth : lesser limit (cost_of n) ≡ min limit limit = ap (lesser limit) none in
          omega (arith, free, worth))
      | inr (c, some) ↦
          (let worth : lesser limit (cost_of n) ≡ min limit c = ap (lesser limit) some in
          elim (cases_lt c limit) [
            | inl less ↦
                (let (p, has, at) = are.all n (c, some, less) in
                let told : potential view limit listed n ≡ view.value p = subst (λ (m : ℕ). potential view limit listed m ≡ view.value p) at (potential-listed view limit listed p are.rising has) in
                let same : Some (view.value p) ≡ Some c = sym (are.only p has).0 ∙ ap cost_of at ∙ some in
                let value : view.value p ≡ c = cc in
                omega (arith, told, worth, value, less))
            | inr more ↦
                (let free = missing (λ cost is. (let same : Some cost ≡ Some c = sym is ∙ some in let value : cost ≡ c = cc in omega (arith, value, more))) in
                omega (arith, free, worth, more))
          ])
    ]

pub below_certificate : {L P : Type 0} (view : LinkView L) (IsLink : L → Type 0) (of : PotentialView P) (from n cost limit : ℕ) (bound : Option ℕ) (cost_of : ℕ → Option ℕ) (listed : List P)
    → IsReach view IsLink from bound cost_of → IsWithin bound limit → AreBelow of cost_of limit listed → cost_of n ≡ Some cost → cost ≤ limit
    → IsCertificate view IsLink from n cost (potential of limit listed)
below_certificate view IsLink of from n cost limit bound cost_of listed knows within are there low =
    let holds = reach_certificate view IsLink from n cost limit bound cost_of knows within there low in
    let is : (m : ℕ) → potential of limit listed m ≡ lesser limit (cost_of m) = λ m. below_lesser of cost_of limit m listed are in
    record {
      starts = is from ∙ holds.starts;
      ends = is n ∙ holds.ends;
      links = λ link at. (let rise = holds.links link at in omega (arith, is (view.from link), is (view.to link), rise));
    }
