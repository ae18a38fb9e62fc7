-- The nearest of several nodes are one list, and what potentials show of them.
use Rattle.std.proofs.Common.{◌≡◌, ◌≢◌, ◌⊎◌, ◌↔◌, ℕ, ◌+◌, ◌-◌, ◌<◌, ◌≤◌, zero, suc, List, [], ◌∷◌, Option, Some, None, IsSome, IfSome, length, map, map-id, All, AllPairs, refl, sym, ap, subst, ◌∙◌, arith, inl, inr}
use Rattle.std.specs.Prelude.{Contains}
use Rattle.std.specs.List.Sorted.{IsStrictlyIncreasing}
use Rattle.std.proofs.lemmas.Bool.{cases_lt}
use Rattle.std.proofs.lemmas.List.{length-map}
use Rattle.std.proofs.lemmas.List.Elements.{All-contains}
use Rattle.std.proofs.lemmas.List.Kept.{AllPairs-from_increasing}
use Rattle.walk_laws.specs.Views.{LinkView, PotentialView}
use Rattle.walk_laws.specs.Walks.{CostsAtLeast, HasWalk, IsLeast}
use Rattle.walk_laws.specs.Certificates.{potential}
use Rattle.nearest_laws.specs.Nearest.{Row, row_nodes, row_costs, last_cost, HasRow, IsNearer, AreFirst, AreShown, AreReached, IsNearest}
use Rattle.walk_laws.proofs.Theorems.{rises_by_cost, certifies}
use Rattle.walk_laws.proofs.WalkLemmas.{IsLeast-cost}

-- ---- who comes first

never_itself : (c n : ℕ) → ¬ IsNearer c n c n
never_itself c n nearer = elim nearer [ inl less ↦ omega arith | inr (same, less) ↦ omega arith ]

not_both : (c n c' n' : ℕ) → IsNearer c n c' n' → ¬ IsNearer c' n' c n
not_both c n c' n' one other = elim one [
  | inl less ↦ elim other [ inl more ↦ omega arith | inr (same, more) ↦ omega arith ]
  | inr (same, less) ↦ elim other [ inl more ↦ omega arith | inr (again, more) ↦ omega arith ]
]

-- one of two comes first, or both are one
one_of_three : (c n c' n' : ℕ) → IsNearer c n c' n' ⊎ (IsNearer c' n' c n ⊎ ((c ≡ c') × (n ≡ n')))
one_of_three c n c' n' = elim (cases_lt c c') [
  | inl less ↦ inl (inl less)
  | inr from ↦ elim (cases_lt c' c) [
    | inl more ↦ inr (inl (inl more))
    | inr to ↦ elim (cases_lt n n') [
      | inl before ↦ inl (inr (omega arith, before))
      | inr behind ↦ elim (cases_lt n' n) [
        | inl after ↦ inr (inl (inr (omega arith, after)))
        | inr there ↦ inr (inr (omega arith, omega arith))
      ]
    ]
  ]
]

-- ---- lists

has_more : {A : Type 0} (x : A) (xs : List A) (z : A) → Contains xs z → Contains (x ∷ xs) z
has_more x xs z at = (suc at.0, omega (arith, at.1), at.2)

has_first : {A : Type 0} (x : A) (xs : List A) → Contains (x ∷ xs) x
has_first x xs = (0, omega arith, refl)

first_or_more : {A : Type 0} (x : A) (xs : List A) (z : A) → Contains (x ∷ xs) z → (x ≡ z) ⊎ Contains xs z
first_or_more x xs z (zero, within, is) = inl is
first_or_more x xs z (suc k, within, is) = inr (k, omega (arith, within), is)

-- what is among the numbers of items is that of one
numbered : {A : Type 0} (f : A → ℕ) (xs : List A) (n : ℕ) → Contains (map f xs) n → (x : A) × Contains xs x × (f x ≡ n)
numbered f [] n at = absurd (omega (arith, at.1))
numbered f (x ∷ xs) n (zero, within, is) = (x, has_first x xs, is)
numbered f (x ∷ xs) n (suc k, within, is) =
    let (z, has, same) = numbered f xs n (k, omega (arith, within), is) in
    (z, has_more x xs z has, same)

-- ---- the first by cost and node

-- a node has one cost
abbrev IsOneCost : (ℕ → ℕ → Type 0) → Type 0
IsOneCost Is = (n c c' : ℕ) → Is n c → Is n c' → c ≡ c'

-- the first of what is so, as many as the limit or all
record AreFirstBy {A : Type 0} (node cost : A → ℕ) (Is : ℕ → ℕ → Type 0) (limit : ℕ) (xs : List A) : Type 0 where
  few : length xs ≤ limit
  each : (x : A) → Contains xs x → Is (node x) (cost x)
  ordered : AllPairs (λ (x y : A). IsNearer (cost x) (node x) (cost y) (node y)) xs
  others : (n c : ℕ) → Is n c → ¬ Contains (map node xs) n → (length xs ≡ limit) × All (λ (x : A). IsNearer (cost x) (node x) c n) xs

comes_first : {A : Type 0} (node cost : A → ℕ) (Is : ℕ → ℕ → Type 0) (limit : ℕ) (x : A) (xs : List A) (z : A)
    → AreFirstBy node cost Is limit (x ∷ xs) → Contains xs z → IsNearer (cost x) (node x) (cost z) (node z)
comes_first {A} node cost Is limit x xs z are at =
    subst (λ (w : A). IsNearer (cost x) (node x) (cost w) (node w)) at.2 (are.ordered 0 (suc at.0) z (omega arith) (omega (arith, at.1)))

-- the node of an item isn't that of a later one
is_other : {A : Type 0} (node cost : A → ℕ) (Is : ℕ → ℕ → Type 0) (limit : ℕ) (x : A) (xs : List A) (z : A)
    → IsOneCost Is → AreFirstBy node cost Is limit (x ∷ xs) → Contains xs z → node z ≢ node x
is_other node cost Is limit x xs z one are at same =
    let there : Is (node x) (cost z) = subst (λ (n : ℕ). Is n (cost z)) same (are.each z (has_more x xs z at)) in
    let equal : cost x ≡ cost z = one (node x) (cost x) (cost z) (are.each x (has_first x xs)) there in
    elim (comes_first node cost Is limit x xs z are at) [ inl less ↦ omega arith | inr (level, less) ↦ omega arith ]

-- those behind the first item are the first of all other nodes
rest_first : {A : Type 0} (node cost : A → ℕ) (Is : ℕ → ℕ → Type 0) (limit m : ℕ) (x : A) (xs : List A)
    → IsOneCost Is → AreFirstBy node cost Is limit (x ∷ xs) → node x ≡ m → AreFirstBy node cost (λ n c. Is n c × (n ≢ m)) (limit - 1) xs
rest_first {A} node cost Is limit m x xs one are is = record {
  few = (let few = are.few in omega arith);
  each = λ z at. (are.each z (has_more x xs z at), (λ same. is_other node cost Is limit x xs z one are at (same ∙ sym is)));
  ordered = λ i j d before within. are.ordered (suc i) (suc j) d (omega arith) (omega arith);
  others = λ n c has missing.
      (let full = are.others n c has.0 (λ at. (elim (first_or_more (node x) (map node xs) n at) [
        | inl here ↦ has.1 (sym here ∙ is)
        | inr there ↦ missing there
      ])) in
      let many = full.0 in
      (omega arith, (λ k d within. full.1 (suc k) d (omega arith))));
}

-- what comes before the first item has none
has_none : {A : Type 0} (node cost : A → ℕ) (Is : ℕ → ℕ → Type 0) (limit n c : ℕ) (y : A) (ys : List A)
    → IsOneCost Is → AreFirstBy node cost Is limit (y ∷ ys) → Is n c → IsNearer c n (cost y) (node y) → ¬ Contains (map node (y ∷ ys)) n
has_none {A} node cost Is limit n c y ys one are is nearer at =
    let (z, has, same) = numbered node (y ∷ ys) n at in
    let there : Is n (cost z) = subst (λ (m : ℕ). Is m (cost z)) same (are.each z has) in
    let equal : c ≡ cost z = one n c (cost z) is there in
    let first : IsNearer (cost z) (node z) (cost y) (node y)
    = subst (λ (b : ℕ). IsNearer b (node z) (cost y) (node y)) equal (subst (λ (m : ℕ). IsNearer c m (cost y) (node y)) (sym same) nearer) in
    elim (first_or_more y ys z has) [
      | inl here ↦ never_itself (cost y) (node y) (subst (λ (w : A). IsNearer (cost w) (node w) (cost y) (node y)) (sym here) first)
      | inr later ↦ not_both (cost y) (node y) (cost z) (node z) (comes_first node cost Is limit y ys z are later) first
    ]

-- where there are none, there is nothing
none_at_all : {A : Type 0} (node cost : A → ℕ) (Is : ℕ → ℕ → Type 0) (limit : ℕ) (y : A) (ys : List A)
    → AreFirstBy node cost Is limit [] → AreFirstBy node cost Is limit (y ∷ ys) → ⊥
none_at_all node cost Is limit y ys none some =
    let full = none.others (node y) (cost y) (some.each y (has_first y ys)) (λ at. omega (arith, at.1)) in
    let few = some.few in
    let many = full.0 in
    omega arith

-- the first item of one list doesn't come before that of the other
not_before : {A : Type 0} (node cost : A → ℕ) (Is : ℕ → ℕ → Type 0) (limit : ℕ) (x y : A) (xs ys : List A)
    → IsOneCost Is → AreFirstBy node cost Is limit (x ∷ xs) → AreFirstBy node cost Is limit (y ∷ ys) → ¬ IsNearer (cost x) (node x) (cost y) (node y)
not_before node cost Is limit x y xs ys one firsts others nearer =
    let is = firsts.each x (has_first x xs) in
    let full = others.others (node x) (cost x) is (has_none node cost Is limit (node x) (cost x) y ys one others is nearer) in
    not_both (cost x) (node x) (cost y) (node y) nearer (full.1 0 y (omega arith))

same_front : {A : Type 0} (f : A → ℕ) (x y : A) (xs ys : List A) → f x ≡ f y → map f xs ≡ map f ys → map f (x ∷ xs) ≡ map f (y ∷ ys)
same_front f x y xs ys here further = ap (λ (n : ℕ). n ∷ map f xs) here ∙ ap (λ (ns : List ℕ). f y ∷ ns) further

one_list : {A : Type 0} (node cost : A → ℕ) (Is : ℕ → ℕ → Type 0) (limit : ℕ) (xs ys : List A)
    → IsOneCost Is → AreFirstBy node cost Is limit xs → AreFirstBy node cost Is limit ys → (map node xs ≡ map node ys) × (map cost xs ≡ map cost ys)
one_list node cost Is limit [] [] one firsts others = (refl, refl)
one_list node cost Is limit [] (y ∷ ys) one firsts others = absurd (none_at_all node cost Is limit y ys firsts others)
one_list node cost Is limit (x ∷ xs) [] one firsts others = absurd (none_at_all node cost Is limit x xs others firsts)
one_list node cost Is limit (x ∷ xs) (y ∷ ys) one firsts others = elim (one_of_three (cost x) (node x) (cost y) (node y)) [
  | inl before ↦ absurd (not_before node cost Is limit x y xs ys one firsts others before)
  | inr (inl behind) ↦ absurd (not_before node cost Is limit y x ys xs one others firsts behind)
  | inr (inr (costs, nodes)) ↦
      (let rest = one_list node cost (λ n c. Is n c × (n ≢ node x)) (limit - 1) xs ys (λ n c c' a b. one n c c' a.0 b.0)
      (rest_first node cost Is limit (node x) x xs one firsts refl) (rest_first node cost Is limit (node x) y ys one others (sym nodes)) in
      (same_front node x y xs ys nodes rest.0, same_front cost x y xs ys costs rest.1))
]

-- ---- rows

-- a least walk of this cost leads to the node, which is a candidate
record IsLed {L : Type 0} (view : LinkView L) (IsLink : L → Type 0) (from : ℕ) (candidates : List ℕ) (n cost : ℕ) : Type 0 where
  candidate : Contains candidates n
  walk : List L
  least : IsLeast view IsLink from n walk cost

one_led : {L : Type 0} (view : LinkView L) (IsLink : L → Type 0) (from : ℕ) (candidates : List ℕ) → IsOneCost (IsLed view IsLink from candidates)
one_led view IsLink from candidates n c c' a b = IsLeast-cost view IsLink from n a.walk b.walk c c' a.least b.least

rows_first : {L : Type 0} (view : LinkView L) (IsLink : L → Type 0) (from : ℕ) (candidates : List ℕ) (limit : ℕ) (rows : List (Row L))
    → AreFirst view IsLink from candidates limit rows → AreFirstBy (λ (row : Row L). row.node) (λ (row : Row L). row.cost) (IsLed view IsLink from candidates) limit rows
rows_first {L} view IsLink from candidates limit rows are = record {
  few = are.few;
  each = λ row at. record {
    candidate = All-contains (λ (r : Row L). Contains candidates r.node) rows row are.candidate at;
    walk = row.walk;
    least = All-contains (λ (r : Row L). IsLeast view IsLink from r.node r.walk r.cost) rows row are.least at;
  };
  ordered = are.ordered;
  others = λ n c led missing.
      subst (λ (b : ℕ). (length rows ≡ limit) × All (λ (row : Row L). IsNearer row.cost row.node b n) rows) led.least.costs
      (are.others n led.walk led.candidate missing led.least.leads);
}

pub one_rows : {L : Type 0} (view : LinkView L) (IsLink : L → Type 0) (from : ℕ) (candidates : List ℕ) (limit : ℕ) (rows rows' : List (Row L))
    → AreFirst view IsLink from candidates limit rows → AreFirst view IsLink from candidates limit rows' → (row_nodes rows ≡ row_nodes rows') × (row_costs rows ≡ row_costs rows')
one_rows {L} view IsLink from candidates limit rows rows' firsts others =
    one_list (λ (row : Row L). row.node) (λ (row : Row L). row.cost) (IsLed view IsLink from candidates) limit rows rows' (one_led view IsLink from candidates)
    (rows_first view IsLink from candidates limit rows firsts) (rows_first view IsLink from candidates limit rows' others)

-- ---- what is reached

-- a list that rises is that of its members
rising_first : (Is : ℕ → Type 0) (limit : ℕ) (ns : List ℕ) → length ns ≤ limit → ((n : ℕ) → Contains ns n ↔ Is n) → IsStrictlyIncreasing ns
    → AreFirstBy (λ (n : ℕ). n) (λ (n : ℕ). 0) (λ n c. Is n × (c ≡ 0)) limit ns
rising_first Is limit ns few exact rises = record {
  few = few;
  each = λ n at. ((exact n).0 at, refl);
  ordered = λ i j d before within. inr (refl, AllPairs-from_increasing ns rises i j d before within);
  others = λ n c has missing. absurd (missing (subst (λ (ms : List ℕ). Contains ms n) (sym (map-id ns)) ((exact n).1 has.0)));
}

one_rising : (Is : ℕ → Type 0) (ns ms : List ℕ) → ((n : ℕ) → Contains ns n ↔ Is n) → ((n : ℕ) → Contains ms n ↔ Is n)
    → IsStrictlyIncreasing ns → IsStrictlyIncreasing ms → ns ≡ ms
one_rising Is ns ms exact exact' rises rises' =
    let same = one_list (λ (n : ℕ). n) (λ (n : ℕ). 0) (λ n c. Is n × (c ≡ 0)) (length ns + length ms) ns ms (λ n c c' a b. a.1 ∙ sym b.1)
    (rising_first Is (length ns + length ms) ns (omega arith) exact rises) (rising_first Is (length ns + length ms) ms (omega arith) exact' rises') in
    sym (map-id ns) ∙ same.0 ∙ map-id ms

one_option : {L : Type 0} (view : LinkView L) (IsLink : L → Type 0) (from : ℕ) (reached reached' : Option (List ℕ)) → (IsSome reached ↔ IsSome reached')
    → IfSome reached (AreReached view IsLink from) → IfSome reached' (AreReached view IsLink from) → reached ≡ reached'
one_option view IsLink from None None both are are' = refl
one_option view IsLink from None (Some ms) both are are' = absurd (let never = both.1 refl in cc)
one_option view IsLink from (Some ns) None both are are' = absurd (let never = both.0 refl in cc)
one_option view IsLink from (Some ns) (Some ms) both are are' =
    ap Some (one_rising (HasWalk view IsLink from) ns ms are.exact are'.exact are.rising are'.rising)

as_many : {L : Type 0} (rows rows' : List (Row L)) → row_nodes rows ≡ row_nodes rows' → length rows ≡ length rows'
as_many {L} rows rows' same =
    let node : Row L → ℕ = λ (row : Row L). row.node in
    sym (length-map rows node) ∙ ap length same ∙ length-map rows' node

pub one_reached : {L P : Type 0} (view : LinkView L) (of : PotentialView P) (IsLink : L → Type 0) (nodes from : ℕ) (candidates : List ℕ) (limit : ℕ)
    (rows rows' : List (Row L)) (listed listed' : List P) (reached reached' : Option (List ℕ)) → IsNearest view of IsLink nodes from candidates limit rows listed reached
    → IsNearest view of IsLink nodes from candidates limit rows' listed' reached' → reached ≡ reached'
one_reached view of IsLink nodes from candidates limit rows rows' listed listed' reached reached' is is' =
    let same = as_many rows rows' (one_rows view IsLink from candidates limit rows rows' is.first is'.first).0 in
    let over : length rows < limit → length rows' < limit = λ less. omega arith in
    let back : length rows' < limit → length rows < limit = λ less. omega arith in
    one_option view IsLink from reached reached' ((λ some. is'.told.1 (over (is.told.0 some))), (λ some. is.told.1 (back (is'.told.0 some)))) is.exact is'.exact

-- ---- potentials

-- no candidate without a row costs less than the last row
pub shown_others : {L P : Type 0} (view : LinkView L) (of : PotentialView P) (IsLink : L → Type 0) (nodes from n : ℕ) (candidates : List ℕ) (rows : List (Row L)) (listed : List P)
    → AreShown view of IsLink nodes from candidates rows listed → Contains candidates n → ¬ HasRow rows n → CostsAtLeast view IsLink from n (last_cost rows)
shown_others view of IsLink nodes from n candidates rows listed shown has missing walk leads =
    let rise = rises_by_cost view IsLink (potential of (last_cost rows) listed) shown.links from n walk leads in
    let high = shown.others n has missing in
    omega (arith, rise, high, shown.starts)

-- none with a row costs less than the row tells
pub shown_rows : {L P : Type 0} (view : LinkView L) (of : PotentialView P) (IsLink : L → Type 0) (nodes from : ℕ) (candidates : List ℕ) (rows : List (Row L)) (listed : List P) (row : Row L)
    → AreShown view of IsLink nodes from candidates rows listed → Contains rows row → CostsAtLeast view IsLink from row.node row.cost
shown_rows {L} view of IsLink nodes from candidates rows listed row shown has =
    certifies view IsLink from row.node row.cost (potential of (last_cost rows) listed) (record {
      starts = shown.starts;
      ends = All-contains (λ (r : Row L). potential of (last_cost rows) listed r.node ≡ r.cost) rows row shown.ends has;
      links = shown.links;
    })
