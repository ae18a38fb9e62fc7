-- Where so many targets cost less than the bound, the first entries are as many and cost less too.
use Rattle.std.proofs.Common.{◌≡◌, ◌≢◌, ℕ, ◌<◌, ◌≤◌, List, ◌∷◌, Option, Some, None, length, get_or, All, AllPairs, refl, sym, ap, subst, ◌∙◌, arith, inl, inr}
use Rattle.std.specs.Prelude.{Contains}
use Rattle.std.proofs.lemmas.Bool.{cases_lt}
use Rattle.std.proofs.lemmas.List.{length-map}
use Rattle.std.proofs.lemmas.List.Elements.{Contains-get_or}
use Rattle.std.proofs.lemmas.List.Kept.{AllPairs-cons}
use Rattle.std.proofs.lemmas.Option.{same_Some}
use Rattle.venue_types.proofs.Items.{Contains-cons_cases}
use Rattle.nearest_laws.specs.Nearest.{IsNearer}
use Rattle.route_search.specs.declared.reached.Reach.{Reach}
use Rattle.route_search.specs.Reaches.{bound_of, cost_of}
use Rattle.nearest_place.specs.declared.entries.Entry.{Entry}
use Rattle.nearest_place.specs.Entries.{AreFirstEntries, AreTargets, HasTargets, entry_nodes}
use Rattle.nearest_place.proofs.Lists.{Contains-view, few_different, has_or_not}

pub nearer_costs : (c n c' n' : ℕ) → IsNearer c n c' n' → c ≤ c'
nearer_costs c n c' n' nearer = elim nearer [ inl less ↦ omega arith | inr (same, less) ↦ omega arith ]

-- where a target below the bound without an entry can't be, each has one
have_entries : (cost_of : ℕ → Option ℕ) (targets : List ℕ) (limit bound : ℕ) (entries : List Entry) (found : List ℕ)
    → AreFirstEntries cost_of targets limit entries → AreTargets targets cost_of limit bound found
    → ((n c : ℕ) → c < bound → (length entries ≡ limit) × All (λ (e : Entry). IsNearer e.cost e.node c n) entries → ⊥)
    → (n : ℕ) → Contains found n → Contains (entry_nodes entries) n
have_entries cost_of targets limit bound entries found first are never n at = elim (has_or_not (entry_nodes entries) n) [
  | inl has ↦ has
  | inr missing ↦ (let (c, some, less) = are.cheap n at in absurd (never n c less (first.others n c (are.targets_are n at) missing some)))
]

as_many : (cost_of : ℕ → Option ℕ) (targets : List ℕ) (limit bound : ℕ) (entries : List Entry) (found : List ℕ)
    → AreFirstEntries cost_of targets limit entries → AreTargets targets cost_of limit bound found → length entries ≡ limit
as_many cost_of targets limit bound entries found first are = elim (cases_lt (length entries) limit) [
  | inl fewer ↦
      (let within = have_entries cost_of targets limit bound entries found first are (λ n c less full. (let many = full.0 in omega (arith, fewer, many))) in
      let count = few_different found (entry_nodes entries) are.different within in
      absurd (omega (arith, fewer, count, are.many, length-map entries (λ (e : Entry). e.node))))
  | inr many ↦ omega (arith, many, first.few)
]

all_cheap : (cost_of : ℕ → Option ℕ) (targets : List ℕ) (limit bound : ℕ) (entries : List Entry) (found : List ℕ)
    → AreFirstEntries cost_of targets limit entries → AreTargets targets cost_of limit bound found → All (λ (e : Entry). e.cost < bound) entries
all_cheap cost_of targets limit bound entries found first are k d inside =
    let e = get_or entries k d in
    elim (cases_lt e.cost bound) [
      | inl less ↦ less
      | inr dear ↦
          (let within = have_entries cost_of targets limit bound entries found first are
          (λ n c less full. (let low = nearer_costs e.cost e.node c n (full.1 k d inside) in omega (arith, low, less, dear))) in
          let apart : (m : ℕ) → Contains found m → e.node ≢ m = λ m at same.
          (let (c, some, less) = are.cheap m at in
          let level : Some c ≡ Some e.cost = sym some ∙ ap cost_of (sym same) ∙ first.known k d inside in
          omega (arith, same_Some c e.cost level, less, dear)) in
          let different : AllPairs (λ a b. a ≢ b) (e.node ∷ found)
          = AllPairs-cons (λ a b. a ≢ b) e.node found (λ i z inner. apart (get_or found i z) (Contains-get_or found i z inner)) are.different in
          let count = few_different (e.node ∷ found) (entry_nodes entries) different (λ m at. elim (Contains-cons_cases e.node found m at) [
            | inl here ↦ subst (Contains (entry_nodes entries)) here (Contains-view (λ (x : Entry). x.node) entries e (Contains-get_or entries k d inside))
            | inr later ↦ within m later
          ]) in
          absurd (omega (arith, count, are.many, first.few, length-map entries (λ (x : Entry). x.node))))
    ]

-- so where there is a bound, there are as many entries as the limit, and all of them cost less
pub entries_full : (reach : Reach) (targets : List ℕ) (limit bound : ℕ) (entries : List Entry) → HasTargets targets limit reach → bound_of reach ≡ Some bound
    → AreFirstEntries (cost_of reach) targets limit entries → (length entries ≡ limit) × All (λ (e : Entry). e.cost < bound) entries
entries_full reach targets limit bound entries enough some first =
    let (found, are) = enough bound some in
    (as_many (cost_of reach) targets limit bound entries found first are, all_cheap (cost_of reach) targets limit bound entries found first are)

is_none : (bound : Option ℕ) → ((b : ℕ) → bound ≡ Some b → ⊥) → bound ≡ None
is_none None never = refl
is_none (Some b) never = absurd (never b refl)

-- and where there are fewer, there is none
pub no_bound : (reach : Reach) (targets : List ℕ) (limit : ℕ) (entries : List Entry) → HasTargets targets limit reach
    → AreFirstEntries (cost_of reach) targets limit entries → length entries < limit → bound_of reach ≡ None
no_bound reach targets limit entries enough first fewer =
    is_none (bound_of reach) (λ b some. (let full = entries_full reach targets limit b entries enough some first in let many = full.0 in omega (arith, fewer, many)))
