-- The ends that are settled.
use Rattle.std.proofs.Common.{◌≡◌, ◌≢◌, ◌⊎◌, inl, inr, ℕ, zero, suc, ◌-◌, ◌<◌, ◌≤◌, Bool, true, false, List, [], ◌∷◌, length, get_or, set, Some, None, refl, sym, ap, subst, ◌∙◌, arith}
use Rattle.std.specs.Prelude.{AllPairs, Contains}
use Rattle.std.proofs.lemmas.Bool.{cases_eq}
use Rattle.std.proofs.lemmas.List.Elements.{Contains-get_or}
use Rattle.route_search.specs.declared.state.State.{State}
use Rattle.route_search.specs.declared.tally.Tally.{Tally}
use Rattle.route_search.specs.States.{cost_in, settled_in}
use Rattle.route_search.specs.Scans.{IsLater}
use Rattle.route_search.specs.Labels.{cost_at}
use Rattle.route_search.specs.States.{settled_at}
use Rattle.route_search.specs.Tallies.{IsNoted, HasSettledEnds, HasKnownEnds}
use Rattle.route_search.proofs.Between.{settled-set_same, settled-set_other}

none_listed : (n : ℕ) → Contains [] n → ⊥
none_listed n has = omega (arith, has.1)

-- no end is settled
pub begun_ends : (is_end : ℕ → Bool) (count : ℕ) (tally : Tally) (state : State) → tally.left ≡ count → HasSettledEnds is_end count tally state
begun_ends is_end count tally state left = (
  [],
  record {
    many = omega (arith, left);
    different = λ i j d before within. absurd (omega (arith, within));
    ends = λ n has. absurd (none_listed n has);
    settled = λ n has. absurd (none_listed n has);
    low = λ n has. absurd (none_listed n has);
  },
)

-- listed at the front or behind it
listed_cases : (m : ℕ) (ms : List ℕ) (n : ℕ) → Contains (m ∷ ms) n → (m ≡ n) ⊎ Contains ms n
listed_cases m ms n (zero, within, is) = inl is
listed_cases m ms n (suc k, within, is) = inr (k, omega arith, is)

-- one that is none of them, in front
different_more : (m : ℕ) (ms : List ℕ) → ((n : ℕ) → Contains ms n → m ≢ n) → AllPairs (λ a b. a ≢ b) ms → AllPairs (λ a b. a ≢ b) (m ∷ ms)
different_more m ms other different i zero d before within = absurd (omega arith)
different_more m ms other different zero (suc j) d before within = other (get_or ms j d) (Contains-get_or ms j d (omega arith))
different_more m ms other different (suc i) (suc j) d before within = different i j d (omega arith) (omega arith)

module _ (is_end : ℕ → Bool) (count cost node : ℕ) (old new : State) (tally later : Tally)
    (free : settled_in old node ≡ false) (within : node < length old.settled.items) (settled : new.settled.items ≡ set old.settled.items node true) (costs : new.costs.items ≡ old.costs.items)
    (fresh : cost_in old node ≡ cost) (below : (n : ℕ) → settled_in old n ≡ true → cost_in old n ≤ cost) where
  cost_same : (n : ℕ) → cost_in new n ≡ cost_in old n
  cost_same n = ap (λ (cs : List ℕ). cost_at cs n) costs

  here : settled_in new node ≡ true
  here = ap (λ (bs : List Bool). settled_at bs node) settled ∙ settled-set_same old.settled.items node true within

  stays : (n : ℕ) → settled_in old n ≡ true → settled_in new n ≡ true
  stays n so = elim (cases_eq n node) [
    | inl same ↦ subst (λ (k : ℕ). settled_in new k ≡ true) (sym same) here
    | inr other ↦ ap (λ (bs : List Bool). settled_at bs n) settled ∙ settled-set_other old.settled.items node n true other ∙ so
  ]

  -- none is counted
  same_ends : later.left ≡ tally.left → ((n : ℕ) → settled_in old n ≡ true → cost_in old n ≤ tally.last → cost_in old n ≤ later.last) → HasSettledEnds is_end count tally old → HasSettledEnds is_end count later new
  same_ends left low (found, are) = (
    found,
    record {
      many = omega (arith, are.many, left);
      different = are.different;
      ends = are.ends;
      settled = λ n has. stays n (are.settled n has);
      low = λ n has. omega (arith, low n (are.settled n has) (are.low n has), cost_same n);
    },
  )

  -- the node is one more
  more_ends : is_end node ≡ true → suc later.left ≡ tally.left → later.last ≡ cost → HasSettledEnds is_end count tally old → HasSettledEnds is_end count later new
  more_ends is left last (found, are) = (
    node ∷ found,
    record {
      many = omega (arith, are.many, left);
      different = different_more node found (λ n has same. (let so : settled_in old node ≡ true = subst (λ (k : ℕ). settled_in old k ≡ true) (sym same) (are.settled n has) in
          let never : true ≡ false = sym so ∙ free in absurd cc)) are.different;
      ends = λ n has. elim (listed_cases node found n has) [ inl at ↦ subst (λ (k : ℕ). is_end k ≡ true) at is | inr was ↦ are.ends n was ];
      settled = λ n has. elim (listed_cases node found n has) [ inl at ↦ subst (λ (k : ℕ). settled_in new k ≡ true) at here | inr was ↦ stays n (are.settled n was) ];
      low = λ n has. elim (listed_cases node found n has) [
        | inl at ↦ subst (λ (k : ℕ). cost_in new k ≤ later.last) at (omega (arith, cost_same node, fresh, last))
        | inr was ↦ omega (arith, below n (are.settled n was), cost_same n, last)
      ];
    },
  )

  counted : (left : ℕ) → tally.left ≡ left → is_end node ≡ true → later.left ≡ tally.left - 1 → later.last ≡ cost → HasSettledEnds is_end count tally old → HasSettledEnds is_end count later new
  counted zero none is left last was = same_ends (omega arith) (λ n so low. omega (arith, below n so)) was
  counted (suc k) some is left last was = more_ends is (omega arith) last was

  noted : (b : Bool) → is_end node ≡ b → IsNoted b cost tally later → HasSettledEnds is_end count tally old → HasSettledEnds is_end count later new
  noted true is (left, last) was = counted tally.left refl is left last was
  noted false is same was = same_ends (ap (λ (t : Tally). t.left) same) (λ n so low. subst (λ (t : Tally). cost_in old n ≤ t.last) (sym same) low) was

  -- the node is settled
  pub settled_ends : IsNoted (is_end node) cost tally later → HasSettledEnds is_end count tally old → HasSettledEnds is_end count later new
  settled_ends note was = noted (is_end node) refl note was

-- nothing is settled, and no cost falls
pub kept_ends : (is_end : ℕ → Bool) (count : ℕ) (tally : Tally) (old new : State) → new.costs.items ≡ old.costs.items → new.settled.items ≡ old.settled.items → HasSettledEnds is_end count tally old
    → HasSettledEnds is_end count tally new
kept_ends is_end count tally old new costs settled (found, are) = (
  found,
  record {
    many = are.many;
    different = are.different;
    ends = are.ends;
    settled = λ n has. ap (λ (bs : List Bool). settled_at bs n) settled ∙ are.settled n has;
    low = λ n has. (let here : cost_in new n ≡ cost_in old n = ap (λ (cs : List ℕ). cost_at cs n) costs in omega (arith, are.low n has, here));
  },
)

-- its links were looked at
pub later_ends : (is_end : ℕ → Bool) (count node more : ℕ) (tally : Tally) (old new : State) → IsLater node more old new → HasSettledEnds is_end count tally old → HasSettledEnds is_end count tally new
later_ends is_end count node more tally old new later (found, are) = (
  found,
  record {
    many = are.many;
    different = are.different;
    ends = are.ends;
    settled = λ n has. ap (λ (bs : List Bool). settled_at bs n) later.settled ∙ are.settled n has;
    low = λ n has. omega (arith, are.low n has, later.lower n);
  },
)

-- enough are settled below the bound
pub enough_ends : (is_end : ℕ → Bool) (count cost : ℕ) (tally : Tally) (old new : State) → new.costs.items ≡ old.costs.items → tally.left ≡ 0 → tally.last < cost → HasSettledEnds is_end count tally old
    → HasKnownEnds is_end count (Some cost) new
enough_ends is_end count cost tally old new costs left less (found, are) limit some =
    let same : cost ≡ limit = cc in (
      found,
      record {
        many = omega (arith, are.many, left);
        different = are.different;
        ends = are.ends;
        low = λ n has. (let here : cost_in new n ≡ cost_in old n = ap (λ (cs : List ℕ). cost_at cs n) costs in omega (arith, are.low n has, here, same));
      },
    )

-- without a bound nothing is asked
pub no_bound_ends : (is_end : ℕ → Bool) (count : ℕ) (state : State) → HasKnownEnds is_end count None state
no_bound_ends is_end count state limit some = let never : None ≡ Some limit = some in absurd cc
