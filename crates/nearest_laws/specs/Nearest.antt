-- The nearest of several nodes: the first of them to which walks lead, and what shows that none is left out.
use Rattle.std.specs.Prelude.{◌≡◌, ◌⊎◌, ◌↔◌, ℕ, ◌+◌, ◌-◌, ◌<◌, ◌≤◌, List, map, length, slice_index, All, AllPairs, Contains, Option, IsSome, IfSome}
use Rattle.std.specs.List.Sorted.{IsStrictlyIncreasing}
use Rattle.walk_laws.specs.Views.{LinkView, PotentialView}
use Rattle.walk_laws.specs.Walks.{IsWalk, walk_cost, IsLeast, HasWalk}
use Rattle.walk_laws.specs.Certificates.{potential, Ascends}

-- a node, a walk to it, and what the walk costs
pub record Row (L : Type 0) : Type 0 where
  pub node : ℕ
  pub walk : List L
  pub cost : ℕ

-- the nodes of rows
abbrev pub row_nodes : {L : Type 0} → List (Row L) → List ℕ
row_nodes {L} rows = map (λ (row : Row L). row.node) rows

-- the costs of rows
abbrev pub row_costs : {L : Type 0} → List (Row L) → List ℕ
row_costs {L} rows = map (λ (row : Row L). row.cost) rows

-- the cost of the last row, and 0 without rows
abbrev pub last_cost : {L : Type 0} → List (Row L) → ℕ
last_cost rows = slice_index (row_costs rows) (length rows - 1)

-- a node has a row
abbrev pub HasRow : {L : Type 0} → List (Row L) → ℕ → Type 0
HasRow rows n = Contains (row_nodes rows) n

-- the lesser cost comes first, and of nodes that cost the same the lesser
abbrev pub IsNearer : ℕ → ℕ → ℕ → ℕ → Type 0
IsNearer cost n cost' n' = (cost < cost') ⊎ ((cost ≡ cost') × (n < n'))

-- the first of the candidates to which walks lead, as many as the limit or all: each with a least walk, nearer than the rows behind it; and where a walk
-- leads to a candidate without a row, there are as many rows as the limit, and each is nearer
pub record AreFirst {L : Type 0} (view : LinkView L) (IsLink : L → Type 0) (from : ℕ) (candidates : List ℕ) (limit : ℕ) (rows : List (Row L)) : Type 0 where
  pub few : length rows ≤ limit
  pub candidate : All (λ (row : Row L). Contains candidates row.node) rows
  pub least : All (λ (row : Row L). IsLeast view IsLink from row.node row.walk row.cost) rows
  pub ordered : AllPairs (λ (row later : Row L). IsNearer row.cost row.node later.cost later.node) rows
  pub others : (n : ℕ) (walk : List L) → Contains candidates n → ¬ HasRow rows n → IsWalk view IsLink from n walk
      → (length rows ≡ limit) × All (λ (row : Row L). IsNearer row.cost row.node (walk_cost view walk) n) rows

-- potentials of nodes alone, which rise by node and lie below the last cost, so that there are none without rows; a node that isn't listed has the last
-- cost. They are 0 at the start, each row's cost at its node, and no less than the last cost at every other candidate; and no link's end lies above its
-- start by more than the link costs
pub record AreShown {L P : Type 0} (view : LinkView L) (of : PotentialView P) (IsLink : L → Type 0) (nodes from : ℕ) (candidates : List ℕ) (rows : List (Row L)) (listed : List P)
    : Type 0 where
  pub rising : Ascends of listed
  pub nodes_alone : All (λ (p : P). of.node p < nodes) listed
  pub below : All (λ (p : P). of.value p < last_cost rows) listed
  pub starts : potential of (last_cost rows) listed from ≡ 0
  pub ends : All (λ (row : Row L). potential of (last_cost rows) listed row.node ≡ row.cost) rows
  pub others : (n : ℕ) → Contains candidates n → ¬ HasRow rows n → last_cost rows ≤ potential of (last_cost rows) listed n
  pub links : (link : L) → IsLink link
      → potential of (last_cost rows) listed (view.to link) ≤ potential of (last_cost rows) listed (view.from link) + view.cost link

-- exactly the nodes to which a walk leads, rising
pub record AreReached {L : Type 0} (view : LinkView L) (IsLink : L → Type 0) (from : ℕ) (reached : List ℕ) : Type 0 where
  pub exact : (n : ℕ) → Contains reached n ↔ HasWalk view IsLink from n
  pub rising : IsStrictlyIncreasing reached

-- the nearest of the candidates, up to the limit, with potentials by which anyone can check that none is left out; and what is reached exactly where
-- there are fewer rows than the limit
pub record IsNearest {L P : Type 0} (view : LinkView L) (of : PotentialView P) (IsLink : L → Type 0) (nodes from : ℕ) (candidates : List ℕ) (limit : ℕ)
    (rows : List (Row L)) (listed : List P) (reached : Option (List ℕ)) : Type 0 where
  pub first : AreFirst view IsLink from candidates limit rows
  pub shown : AreShown view of IsLink nodes from candidates rows listed
  pub told : IsSome reached ↔ (length rows < limit)
  pub exact : IfSome reached (AreReached view IsLink from)
