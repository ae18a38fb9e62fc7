-- From what a search knows to the nearest.
use Rattle.std.proofs.Common.{◌≡◌, ◌⊎◌, ◌↔◌, ℕ, ◌<◌, ◌≤◌, min, List, [], ◌∷◌, Option, Some, None, IfSome, length, get_or, map, All, refl, sym, ap, subst, ◌∙◌, arith, inl, inr}
use Rattle.std.specs.Prelude.{Contains}
use Rattle.std.specs.List.Sorted.{IsStrictlyIncreasing}
use Rattle.std.proofs.lemmas.Bool.{cases_lt}
use Rattle.std.proofs.lemmas.List.{length-map}
use Rattle.std.proofs.lemmas.List.Elements.{All-map, Contains-get_or}
use Rattle.venue_types.specs.declared.feature_id.FeatureId.{FeatureId}
use Rattle.venue_types.specs.declared.link.Link.{Link}
use Rattle.venue_types.specs.declared.link.Potential.{Potential}
use Rattle.venue_types.specs.declared.settings.Profile.{Profile}
use Rattle.walk_laws.specs.Walks.{IsWalk, walk_cost, CostsAtLeast, HasWalk, IsLeast}
use Rattle.walk_laws.specs.Certificates.{potential, IsCertificate}
use Rattle.walk_laws.specs.Reaches.{lesser, HasCost, AreBelow}
use Rattle.nearest_laws.specs.Nearest.{Row, row_nodes, last_cost, HasRow, IsNearer, AreFirst, AreShown, AreReached}
use Rattle.link_graph.specs.Networks.{Network, IsPassable}
use Rattle.link_graph.specs.Views.{link_view, potential_view}
use Rattle.route_search.specs.declared.reached.Reach.{Reach}
use Rattle.route_search.specs.Reaches.{IsReachOver, IsSmallReach, bound_of, cost_of, nodes_of}
use Rattle.nearest_place.specs.declared.entries.Entry.{Entry}
use Rattle.nearest_place.specs.declared.near.NearWalk.{NearWalk}
use Rattle.nearest_place.specs.Entries.{AreFirstEntries, AreRows, HasTargets, IsWalked, entry_nodes, entry_of_row}
use Rattle.nearest_place.specs.Near.{row_of, IsSmallWalk}
use Rattle.nearest_place.proofs.EnoughLemmas.{entries_full, nearer_costs, no_bound}
use Rattle.nearest_place.proofs.Lists.{all_of_map, pairs_of_map, pairs_to_map}
use Rattle.nearest_place.proofs.RowLemmas.{up_to_last, last_below}

-- what the laws say of a search over a family
pub record IsKnown (IsLink : Link → Type 0) (from : ℕ) (reach : Reach) : Type 0 where
  pub start : cost_of reach from ≡ Some 0
  pub least : (n cost : ℕ) → cost_of reach n ≡ Some cost → CostsAtLeast link_view IsLink from n cost
  pub beyond : (n bound : ℕ) → bound_of reach ≡ Some bound → cost_of reach n ≡ None → CostsAtLeast link_view IsLink from n bound
  pub reached : bound_of reach ≡ None → (n : ℕ) → HasCost (cost_of reach) n ↔ HasWalk link_view IsLink from n

-- and of the costs below the last
pub record IsListed (IsLink : Link → Type 0) (from : ℕ) (reach : Reach) (last : ℕ) (listed : List Potential) : Type 0 where
  pub certificate : (n cost : ℕ) → cost_of reach n ≡ Some cost → cost ≤ last → IsCertificate link_view IsLink from n cost (potential potential_view last listed)
  pub lesser_of : (n : ℕ) → potential potential_view last listed n ≡ lesser last (cost_of reach n)

-- the rows' entries are the first
pub record AreFirstRows (reach : Reach) (targets : List ℕ) (limit : ℕ) (rows : List NearWalk) : Type 0 where
  pub first : AreFirstEntries (cost_of reach) targets limit (map entry_of_row rows)
  pub walked : All (IsWalked reach) rows

pub first_rows : (reach : Reach) (targets : List ℕ) (limit : ℕ) (entries : List Entry) (rows : List NearWalk) → AreFirstEntries (cost_of reach) targets limit entries → AreRows reach entries rows
    → AreFirstRows reach targets limit rows
first_rows reach targets limit entries rows first are =
    record { first = subst (AreFirstEntries (cost_of reach) targets limit) (sym are.entries_are) first; walked = are.walked }

-- ---- rows

-- a node has a cost or none
cases_cost : (cost : Option ℕ) → (cost ≡ None) ⊎ ((c : ℕ) × (cost ≡ Some c))
cases_cost None = inl refl
cases_cost (Some c) = inr (c, refl)

same_nodes : (rows : List NearWalk) → entry_nodes (map entry_of_row rows) ≡ row_nodes (map row_of rows)
same_nodes [] = refl
same_nodes (row ∷ rows) = ap (λ (ns : List ℕ). row.node ∷ ns) (same_nodes rows)

no_entry : (rows : List NearWalk) (n : ℕ) → ¬ HasRow (map row_of rows) n → ¬ Contains (entry_nodes (map entry_of_row rows)) n
no_entry rows n missing at = missing (subst (λ (ns : List ℕ). Contains ns n) (same_nodes rows) at)

pub rows_known : (reach : Reach) (targets : List ℕ) (limit : ℕ) (rows : List NearWalk) → AreFirstRows reach targets limit rows → All (λ (row : NearWalk). cost_of reach row.node ≡ Some row.cost) rows
rows_known reach targets limit rows are = all_of_map entry_of_row (λ (e : Entry). cost_of reach e.node ≡ Some e.cost) rows are.first.known

nearer_still : (c n c' c'' n' : ℕ) → IsNearer c n c' n' → c' ≤ c'' → IsNearer c n c'' n'
nearer_still c n c' c'' n' nearer more = elim nearer [
  | inl less ↦ inl (omega arith)
  | inr (same, less) ↦ elim (cases_lt c c'') [ inl below ↦ inl below | inr level ↦ inr (omega arith, less) ]
]

-- where a walk leads to a target without a row, each row is nearer
others_far : (IsLink : Link → Type 0) (from : ℕ) (reach : Reach) (targets : List ℕ) (limit : ℕ) (rows : List NearWalk)
    → IsKnown IsLink from reach → HasTargets targets limit reach → AreFirstRows reach targets limit rows
    → (n : ℕ) (walk : List Link) → Contains targets n → ¬ HasRow (map row_of rows) n → IsWalk link_view IsLink from n walk
    → (length rows ≡ limit) × All (λ (row : NearWalk). IsNearer row.cost row.node (walk_cost link_view walk) n) rows
others_far IsLink from reach targets limit rows known enough are n walk has missing leads =
    let count = length-map rows entry_of_row in
    elim (cases_cost (cost_of reach n)) [
      | inr (c, some) ↦
          (let (full, all) = are.first.others n c has (no_entry rows n missing) some in
          let near = all_of_map entry_of_row (λ (e : Entry). IsNearer e.cost e.node c n) rows all in
          let more : c ≤ walk_cost link_view walk = known.least n c some walk leads in
          (omega (arith, full, count), (λ k d within. nearer_still (get_or rows k d).cost (get_or rows k d).node c (walk_cost link_view walk) n (near k d within) more)))
      | inl none ↦ elim (cases_cost (bound_of reach)) [
        | inl free ↦
            (let (c, some) = (known.reached free n).1 (walk, leads) in
            let never : None ≡ Some c = sym none ∙ some in
            absurd (cc))
        | inr (bound, some) ↦
            (let (full, all) = entries_full reach targets limit bound (map entry_of_row rows) enough some are.first in
            let cheap = all_of_map entry_of_row (λ (e : Entry). e.cost < bound) rows all in
            let more : bound ≤ walk_cost link_view walk = known.beyond n bound some none walk leads in
            (omega (arith, full, count), (λ k d within. inl (let less = cheap k d within in omega (arith, less, more)))))
      ]
    ]

pub are_first : (network : Network) (closed : List FeatureId) (profile : Profile) (from : ℕ) (reach : Reach) (targets : List ℕ) (limit : ℕ) (rows : List NearWalk)
    → IsReachOver (IsPassable network closed profile) from reach → IsKnown (IsPassable network closed profile) from reach → HasTargets targets limit reach → AreFirstRows reach targets limit rows
    → AreFirst link_view (IsPassable network closed profile) from targets limit (map row_of rows)
are_first network closed profile from reach targets limit rows over known enough are =
    let IsLink = IsPassable network closed profile in
    let first = are.first in
    record {
      few = omega (arith, first.few, length-map rows entry_of_row, length-map rows row_of);
      candidate = All-map (λ (row : Row Link). Contains targets row.node) row_of rows (all_of_map entry_of_row (λ (e : Entry). Contains targets e.node) rows first.target);
      least = All-map (λ (row : Row Link). IsLeast link_view IsLink from row.node row.walk row.cost) row_of rows (λ k d within. (are.walked k d within).least network closed profile from over);
      ordered = pairs_to_map row_of (λ (row later : Row Link). IsNearer row.cost row.node later.cost later.node) rows
          (pairs_of_map entry_of_row (λ (e later : Entry). IsNearer e.cost e.node later.cost later.node) rows first.ordered);
      others = λ n walk has missing leads.
          (let (full, all) = others_far IsLink from reach targets limit rows known enough are n walk has missing leads in
          (omega (arith, full, length-map rows row_of), All-map (λ (row : Row Link). IsNearer row.cost row.node (walk_cost link_view walk) n) row_of rows all));
    }

-- ---- potentials

pub are_shown : (IsLink : Link → Type 0) (nodes from : ℕ) (reach : Reach) (targets : List ℕ) (limit : ℕ) (rows : List NearWalk) (listed : List Potential)
    → IsKnown IsLink from reach → IsListed IsLink from reach (last_cost (map row_of rows)) listed → AreFirstRows reach targets limit rows
    → AreBelow potential_view (cost_of reach) (last_cost (map row_of rows)) listed → All (λ (p : Potential). p.node < nodes) listed
    → AreShown link_view potential_view IsLink nodes from targets (map row_of rows) listed
are_shown IsLink nodes from reach targets limit rows listed known tells are below alone =
    let last = last_cost (map row_of rows) in
    let zero_there = tells.certificate from 0 known.start (omega arith) in
    let ordered = pairs_of_map entry_of_row (λ (e later : Entry). IsNearer e.cost e.node later.cost later.node) rows are.first.ordered in
    let low = up_to_last rows ordered in
    let some = rows_known reach targets limit rows are in
    record {
      rising = below.rising;
      nodes_alone = alone;
      below = λ k d within. (below.only (get_or listed k d) (Contains-get_or listed k d within)).1;
      starts = zero_there.starts;
      ends = All-map (λ (row : Row Link). potential potential_view last listed row.node ≡ row.cost) row_of rows
          (λ k d within. (tells.certificate (get_or rows k d).node (get_or rows k d).cost (some k d within) (low k d within)).ends);
      others = λ n has missing. elim (cases_cost (cost_of reach n)) [
        | inl none ↦ (let worth : lesser last (cost_of reach n) ≡ min last last = ap (lesser last) none in omega (arith, tells.lesser_of n, worth))
        | inr (c, there) ↦
            (let worth : lesser last (cost_of reach n) ≡ min last c = ap (lesser last) there in
            let (full, all) = are.first.others n c has (no_entry rows n missing) there in
            let near = all_of_map entry_of_row (λ (e : Entry). IsNearer e.cost e.node c n) rows all in
            let most : last ≤ c = last_below rows c (λ k d within. nearer_costs (get_or rows k d).cost (get_or rows k d).node c n (near k d within)) in
            omega (arith, tells.lesser_of n, worth, most))
      ];
      links = zero_there.links;
    }

-- ---- what is reached

pub are_reached : (IsLink : Link → Type 0) (from : ℕ) (reach : Reach) (reached : Option (List ℕ)) → IsKnown IsLink from reach
    → IfSome reached (λ ns. (n : ℕ) → Contains ns n ↔ HasCost (cost_of reach) n) → IfSome reached (λ _. bound_of reach ≡ None) → IfSome reached IsStrictlyIncreasing
    → IfSome reached (AreReached link_view IsLink from)
are_reached IsLink from reach None known exact whole rising = tt
are_reached IsLink from reach (Some ns) known exact whole rising = record {
  exact = λ n. ((λ at. (known.reached whole n).0 ((exact n).0 at)), (λ leads. (exact n).1 ((known.reached whole n).1 leads)));
  rising = rising;
}

-- fewer rows than the limit leave no bound
pub fewer_rows : (reach : Reach) (targets : List ℕ) (limit : ℕ) (rows : List NearWalk) → HasTargets targets limit reach → AreFirstRows reach targets limit rows → length rows < limit → bound_of reach ≡ None
fewer_rows reach targets limit rows enough are fewer =
    no_bound reach targets limit (map entry_of_row rows) enough are.first (omega (arith, fewer, length-map rows entry_of_row))

-- ---- sizes

pub small_rows : (reach : Reach) (targets : List ℕ) (limit nodes : ℕ) (rows : List NearWalk) → AreFirstRows reach targets limit rows → IsSmallReach nodes reach → All (IsSmallWalk nodes) rows
small_rows reach targets limit nodes rows are small k d within =
    let row = get_or rows k d in
    let some = rows_known reach targets limit rows are k d within in
    record {
      there = small.there row.node row.cost some;
      few = omega (arith, (are.walked k d within).few, small.nodes_are);
      cheap = small.cheap row.node row.cost some;
    }

pub small_reached : (reach : Reach) (nodes : ℕ) (reached : Option (List ℕ)) → IsSmallReach nodes reach → IfSome reached (All (λ (n : ℕ). n < nodes_of reach)) → IfSome reached (All (λ (n : ℕ). n < nodes))
small_reached reach nodes None small all = tt
small_reached reach nodes (Some ns) small all = λ k d within. (let less = all k d within in omega (arith, less, small.nodes_are))
