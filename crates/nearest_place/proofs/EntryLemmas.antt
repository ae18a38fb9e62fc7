-- The entries of targets, sorted and cut.
use Rattle.std.proofs.Common.{◌≡◌, ℕ, ◌+◌, ◌<◌, ◌≤◌, Bool, false, eqb, ne_eqb, List, [], ◌∷◌, ◌++◌, Option, Some, None, length, get_or, take, filter_map, option_map, option_to_list, IsSorted, IsPermutation, All, AllPairs, refl, sym, ap, subst, ◌∙◌, arith, inl, inr}
use Rattle.std.specs.Prelude.{Contains}
use Rattle.std.specs.List.{IsDistinct, cons_option}
use Rattle.std.specs.List.Sorted.{IsStrictlyIncreasing, IsStrictlySortedBy}
use Rattle.std.specs.Cmp.{IsTotalOrder}
use Rattle.std.specs.Ordering.{nat_cmp, ordering_then, is_lt}
use Rattle.std.specs.declared.cmp.Ordering.TheVariants.{Less}
use Rattle.std.proofs.lemmas.Bool.{cases_lt}
use Rattle.std.proofs.lemmas.Bool.Decides.{eqb_tells, nat_tests}
use Rattle.std.proofs.lemmas.Cmp.{then_total, on_total, nat_cmp_total}
use Rattle.std.proofs.lemmas.List.{take_more, length-take, get_or-take, get_or_default}
use Rattle.std.proofs.lemmas.List.Elements.{All-contains, All-from_recursion, recursion_from_All, Contains-get_or, filter_map-append}
use Rattle.std.proofs.lemmas.List.Sorted.{sorted_far, ranks_by, IsPermutation-sym, Contains-permutation}
use Rattle.std.proofs.lemmas.Map.Keys.{IsDistinct-cons, IsDistinct-IsPermutation, apart_from_distinct, sorted_head, sorted_tail, sorted_from_strictly_increasing}
use Rattle.std.proofs.lemmas.Option.{same_Some}
use Rattle.venue_types.proofs.Items.{Contains-first, Contains-later, Contains-cons_cases}
use Rattle.nearest_laws.specs.Nearest.{IsNearer}
use Rattle.nearest_place.specs.declared.entries.Entry.{Entry}
use Rattle.nearest_place.specs.Entries.{entry, entry_at, entry_cmp, AreFirstEntries}
use Rattle.nearest_place.proofs.Lists.{Contains-view}

-- ---- the entry of a node

given_of : (n : ℕ) (cost : Option ℕ) (e : Entry) → option_map (entry n) cost ≡ Some e → (e.node ≡ n) × (cost ≡ Some e.cost)
given_of n None e is = absurd (let never : None ≡ Some e = is in cc)
given_of n (Some c) e is =
    let same : entry n c ≡ e = same_Some (entry n c) e is in
    (ap (λ (x : Entry). x.node) (sym same), ap (λ (x : Entry). Some x.cost) same)

entry_given : (cost_of : ℕ → Option ℕ) (n : ℕ) (e : Entry) → entry_at cost_of n ≡ Some e → (e.node ≡ n) × (cost_of n ≡ Some e.cost)
unfolding entry_at
entry_given cost_of n e is = given_of n (cost_of n) e is

entry_back : (cost_of : ℕ → Option ℕ) (n c : ℕ) → cost_of n ≡ Some c → entry_at cost_of n ≡ Some (entry n c)
unfolding entry_at
entry_back cost_of n c some = ap (option_map (entry n)) some

-- ---- the entries of targets

-- a loop's step
one_given : (o : Option Entry) → cons_option o [] ≡ option_to_list o
one_given None = refl
one_given (Some e) = refl

pub entries_more : (h : ℕ → Option Entry) (targets : List ℕ) (i d : ℕ) (o : Option Entry) (old new : List Entry) → i < length targets → old ≡ filter_map h (take i targets)
    → o ≡ h (get_or targets i d) → new ≡ old ++ option_to_list o → new ≡ filter_map h (take (i + 1) targets)
entries_more h targets i d o old new within before is grown =
    let whole : filter_map h (take (i + 1) targets) ≡ filter_map h (take i targets) ++ option_to_list (h (get_or targets i d))
    = ap (filter_map h) (take_more targets i d within)
    ∙ filter_map-append h (take i targets) (get_or targets i d ∷ [])
    ∙ ap (λ (es : List Entry). filter_map h (take i targets) ++ es) (one_given (h (get_or targets i d))) in
    grown ∙ ap (λ (es : List Entry). es ++ option_to_list o) before ∙ ap (λ (p : Option Entry). filter_map h (take i targets) ++ option_to_list p) is ∙ sym whole

-- what is given of a list is given of one of its numbers
only_step : (h : ℕ → Option Entry) (t : ℕ) (ts : List ℕ) (rest : List Entry) (e : Entry) → (Contains rest e → (n : ℕ) × Contains ts n × (h n ≡ Some e))
    → (o : Option Entry) → h t ≡ o → Contains (cons_option o rest) e → (n : ℕ) × Contains (t ∷ ts) n × (h n ≡ Some e)
only_step h t ts rest e later None is at = let (n, has, gives) = later at in (n, Contains-later t ts n has, gives)
only_step h t ts rest e later (Some x) is at = elim (Contains-cons_cases x rest e at) [
  | inl same ↦ (t, Contains-first t ts, is ∙ ap Some same)
  | inr behind ↦ (let (n, has, gives) = later behind in (n, Contains-later t ts n has, gives))
]

only_given : (h : ℕ → Option Entry) (ts : List ℕ) (e : Entry) → Contains (filter_map h ts) e → (n : ℕ) × Contains ts n × (h n ≡ Some e)
only_given h [] e at = absurd (omega (arith, at.1))
only_given h (t ∷ ts) e at = only_step h t ts (filter_map h ts) e (only_given h ts e) (h t) refl at

-- and all that is given is there
front_given : (o : Option Entry) (rest : List Entry) (e : Entry) → o ≡ Some e → Contains (cons_option o rest) e
front_given None rest e is = absurd (let never : None ≡ Some e = is in cc)
front_given (Some x) rest e is = (0, omega arith, same_Some x e is)

behind_given : (o : Option Entry) (rest : List Entry) (e : Entry) → Contains rest e → Contains (cons_option o rest) e
behind_given None rest e at = at
behind_given (Some x) rest e at = Contains-later x rest e at

all_given : (h : ℕ → Option Entry) (ts : List ℕ) (n : ℕ) (e : Entry) → Contains ts n → h n ≡ Some e → Contains (filter_map h ts) e
all_given h [] n e at gives = absurd (omega (arith, at.1))
all_given h (t ∷ ts) n e at gives = elim (Contains-cons_cases t ts n at) [
  | inl here ↦ front_given (h t) (filter_map h ts) e (ap h here ∙ gives)
  | inr later ↦ behind_given (h t) (filter_map h ts) e (all_given h ts n e later gives)
]

-- ---- their nodes are different

abbrev same_node : Entry → Entry → Bool
same_node a b = eqb a.node b.node

same_node_flips : (a b : Entry) → same_node a b ≡ same_node b a
same_node_flips a b = elim (eqb_tells a.node b.node) [
  | inl here ↦ ap (λ (n : ℕ). eqb a.node n) (sym here.1) ∙ ap (λ (n : ℕ). eqb n a.node) here.1
  | inr other ↦ other.0 ∙ sym (ne_eqb b.node a.node (λ same. other.1 (sym same)))
]

no_entries : IsDistinct same_node []
unfolding IsDistinct
no_entries = tt

distinct_step : (h : ℕ → Option Entry) (t : ℕ) (ts : List ℕ) → ((n : ℕ) (e : Entry) → h n ≡ Some e → e.node ≡ n) → ((n : ℕ) → Contains ts n → t < n)
    → IsDistinct same_node (filter_map h ts) → (o : Option Entry) → h t ≡ o → IsDistinct same_node (cons_option o (filter_map h ts))
distinct_step h t ts names above rest None is = rest
distinct_step h t ts names above rest (Some x) is =
    let here : x.node ≡ t = names t x is in
    IsDistinct-cons same_node x (filter_map h ts)
    (recursion_from_All (λ (y : Entry). same_node x y ≡ false) (filter_map h ts) (λ k d within.
    (let y = get_or (filter_map h ts) k d in
    let (n, has, gives) = only_given h ts y (Contains-get_or (filter_map h ts) k d within) in
    let there : y.node ≡ n = names n y gives in
    let more : t < n = above n has in
    ne_eqb x.node y.node (λ same. omega (arith, here, there, more, same)))))
    rest

less_than : (t n : ℕ) → nat_cmp t n ≡ Less → t < n
less_than t n is = grind (arith, nat_tests)

distinct_given : (h : ℕ → Option Entry) (ts : List ℕ) → ((n : ℕ) (e : Entry) → h n ≡ Some e → e.node ≡ n) → IsStrictlySortedBy nat_cmp ts → IsDistinct same_node (filter_map h ts)
distinct_given h [] names rises = no_entries
distinct_given h (t ∷ ts) names rises =
    let head : All (λ (n : ℕ). nat_cmp t n ≡ Less) ts = All-from_recursion (λ (n : ℕ). nat_cmp t n ≡ Less) ts (sorted_head nat_cmp t ts rises) in
    distinct_step h t ts names (λ n at. less_than t n (All-contains (λ (m : ℕ). nat_cmp t m ≡ Less) ts n head at))
    (distinct_given h ts names (sorted_tail nat_cmp t ts rises)) (h t) refl

-- ---- sorted

entries_total : IsTotalOrder entry_cmp
entries_total = then_total (on_total (λ (e : Entry). e.cost) nat_cmp_total) (on_total (λ (e : Entry). e.node) nat_cmp_total)

not_less : (m n k j : ℕ) → is_lt (ordering_then (nat_cmp m n) (nat_cmp k j)) ≡ false → n ≤ m
not_less m n k j e = grind (arith, nat_tests)

not_less_then : (m n k j : ℕ) → is_lt (ordering_then (nat_cmp m n) (nat_cmp k j)) ≡ false → n ≡ m → j ≤ k
not_less_then m n k j e same = grind (arith, nat_tests)

nearer_from : (m n k j : ℕ) → is_lt (ordering_then (nat_cmp m n) (nat_cmp k j)) ≡ false → eqb j k ≡ false → IsNearer n j m k
nearer_from m n k j far apart = elim (cases_lt n m) [
  | inl less ↦ inl less
  | inr more ↦
      (let level : n ≡ m = omega (arith, more, not_less m n k j far) in
      let before : j ≤ k = not_less_then m n k j far level in
      elim (eqb_tells j k) [
        | inl same ↦ (let told = same.0 in absurd cc)
        | inr other ↦ inr (level, omega (arith, before, other.1))
      ])
]

sorted_pairs : (es : List Entry) → IsSorted entry_cmp es → IsDistinct same_node es → AllPairs (λ (e later : Entry). IsNearer e.cost e.node later.cost later.node) es
sorted_pairs es up apart i j d before within =
    let far = sorted_far (λ (x y : Entry). is_lt (entry_cmp x y)) (ranks_by entries_total (λ (e : Entry). e)) es up i j d (omega arith) within in
    let a = get_or es i d in
    let b = get_or es j d in
    nearer_from b.cost a.cost b.node a.node far (apart_from_distinct same_node es i j d apart before within)

-- ---- cut

from_take : {A : Type 0} (n : ℕ) (xs : List A) (x : A) → Contains (take n xs) x → Contains xs x
from_take n xs x at =
    let short = length-take n xs in
    (at.0, omega (arith, at.1, short), sym (get_or-take n xs at.0 x (omega (arith, at.1, short))) ∙ at.2)

to_take : {A : Type 0} (n : ℕ) (xs : List A) (x : A) (at : Contains xs x) → at.0 < n → Contains (take n xs) x
to_take n xs x at early = (at.0, omega (arith, at.1, early, length-take n xs), get_or-take n xs at.0 x early ∙ at.2)

-- of entries in order the first are those of the nearest targets
pub cut_entries : (cost_of : ℕ → Option ℕ) (targets : List ℕ) (limit : ℕ) (all sorted : List Entry) → IsStrictlyIncreasing targets → all ≡ filter_map (entry_at cost_of) targets
    → IsPermutation all sorted → IsSorted entry_cmp sorted → AreFirstEntries cost_of targets limit (take limit sorted)
cut_entries cost_of targets limit all sorted rises given moved up =
    let h = entry_at cost_of in
    let names : (n : ℕ) (e : Entry) → h n ≡ Some e → e.node ≡ n = λ n e is. (entry_given cost_of n e is).0 in
    let apart : IsDistinct same_node sorted
    = IsDistinct-IsPermutation same_node same_node_flips all sorted moved
    (subst (IsDistinct same_node) (sym given) (distinct_given h targets names (sorted_from_strictly_increasing targets rises))) in
    let pairs = sorted_pairs sorted up apart in
    let short = length-take limit sorted in
    let of : (e : Entry) → Contains (take limit sorted) e → (n : ℕ) × Contains targets n × (h n ≡ Some e)
    = λ e at. only_given h targets e (subst (λ (es : List Entry). Contains es e) given (Contains-permutation sorted all e (IsPermutation-sym all sorted moved) (from_take limit sorted e at))) in
    record {
      few = omega (arith, short);
      target = λ k d within.
          (let e = get_or (take limit sorted) k d in
          let (n, has, gives) = of e (Contains-get_or (take limit sorted) k d within) in
          subst (Contains targets) (sym (names n e gives)) has);
      known = λ k d within.
          (let e = get_or (take limit sorted) k d in
          let (n, has, gives) = of e (Contains-get_or (take limit sorted) k d within) in
          let (same, some) = entry_given cost_of n e gives in
          ap cost_of same ∙ some);
      ordered = λ i j d before within.
          (let inside : j < length sorted = omega (arith, within, short) in
          let early : j < limit = omega (arith, within, short) in
          subst (λ (e : Entry). IsNearer e.cost e.node (get_or (take limit sorted) j d).cost (get_or (take limit sorted) j d).node) (sym (get_or-take limit sorted i d (omega arith)))
          (subst (λ (e : Entry). IsNearer (get_or sorted i d).cost (get_or sorted i d).node e.cost e.node) (sym (get_or-take limit sorted j d early)) (pairs i j d before inside)));
      others = λ n cost has missing some.
          (let e = entry n cost in
          let at : Contains sorted e
          = Contains-permutation all sorted e moved (subst (λ (es : List Entry). Contains es e) (sym given) (all_given h targets n e has (entry_back cost_of n cost some))) in
          let late : limit ≤ at.0 = elim (cases_lt at.0 limit) [
            | inl early ↦ absurd (missing (Contains-view (λ (x : Entry). x.node) (take limit sorted) e (to_take limit sorted e at early)))
            | inr late ↦ late
          ] in (
            omega (arith, short, late, at.1),
            (λ k d within.
                (let early : k < limit = omega (arith, within, short) in
                let near = pairs k at.0 e (omega (arith, early, late)) at.1 in
                let there : IsNearer (get_or sorted k e).cost (get_or sorted k e).node cost n
                = subst (λ (x : Entry). IsNearer (get_or sorted k e).cost (get_or sorted k e).node x.cost x.node) at.2 near in
                subst (λ (x : Entry). IsNearer x.cost x.node cost n) (sym (get_or-take limit sorted k d early))
                (subst (λ (x : Entry). IsNearer x.cost x.node cost n) (get_or_default sorted k e d (omega (arith, at.1, early, late))) there))),
          ));
    }
