-- A tree over entries: how far they reach, half by half.
use Rattle.std.specs.Prelude.{◌≡◌, ℕ, zero, suc, ◌+◌, ◌/◌, ◌<◌, List, [], ◌∷◌, ◌++◌, length, take, drop, IsPermutation}
use Rattle.opening_match.specs.declared.entries.Entry.{Entry}
use Rattle.opening_match.specs.declared.extents.Extent.{Extent}
use Rattle.opening_match.specs.declared.trees.Branch.{Branch}
use Rattle.opening_match.specs.declared.trees.Tree.{Tree}
use Rattle.opening_match.specs.Extents.{IsRound}

-- the first extent lies round the entries, those of the first half of the others round the first half of the entries, and so on
unfoldable pub IsTree : ℕ → List Extent → List Entry → Type 0
IsTree zero [] entries = Unit {0}
IsTree zero (extent ∷ below) entries = IsRound extent entries
IsTree (suc depth) [] entries = Unit {0}
IsTree (suc depth) (extent ∷ below) entries =
    IsRound extent entries
    × IsTree depth (take (length below / 2) below) (take (length entries / 2) entries)
    × IsTree depth (drop (length below / 2) below) (drop (length entries / 2) entries)

-- how many extents such a tree has
abbrev pub extents_of : ℕ → ℕ
extents_of zero = 1
extents_of (suc depth) = suc (extents_of depth + extents_of depth)

-- the new extents are the old ones and a tree of the entries
abbrev pub AddsTree : ℕ → List Entry → List Extent → List Extent → Type 0
AddsTree depth entries old new = (added : List Extent) × (new ≡ old ++ added) × (length added ≡ extents_of depth) × IsTree depth added entries

-- it has these entries in some order, and its extents are a tree of them
pub record IsTreeOf (entries : List Entry) (tree : Tree) : Type 0 where
  pub same : IsPermutation entries tree.entries.items
  pub sound : IsTree tree.depth tree.extents.items tree.entries.items

-- its extents are a tree of its entries
abbrev pub IsSound : Branch → Type 0
IsSound branch = IsTree branch.depth branch.extents.now branch.entries.now

-- the two branches make up the branch
pub record AreHalves (branch front back : Branch) : Type 0 where
  pub entries : branch.entries.now ≡ front.entries.now ++ back.entries.now
  pub front_sound : IsSound branch → IsSound front
  pub back_sound : IsSound branch → IsSound back
  pub front_depth : front.depth < branch.depth
  pub back_depth : back.depth < branch.depth
