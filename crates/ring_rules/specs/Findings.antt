-- What is found in a ring, in the rings of a feature, and in a file.
use Rattle.std.specs.Prelude.{◌≡◌, ℕ, ◌+◌, List, Some, None, slice_get}
use Rattle.venue_types.specs.declared.finding.Finding.{Finding}
use Rattle.venue_types.specs.declared.point.Ring.{Ring}
use Rattle.venue_types.specs.declared.point.Shape.{Shape}
use Rattle.venue_types.specs.declared.folder_file.File.{File}
use Rattle.imdf_schema.specs.declared.rules.Rule.{Rule}
use Rattle.imdf_schema.specs.Places.{finding_at}
use Rattle.ring_rules.specs.Rings.{Placed, placed_rings}
use Rattle.ring_rules.specs.Rules.{RingBreaks}

-- this rule is broken by the ring of this number
pub record FindsRule (source : File) (index number : ℕ) (placed : Placed) (rule : Rule) (x : Finding) : Type 0 where
  pub breaks : RingBreaks rule placed
  pub is : x ≡ finding_at rule source index number

-- a rule is broken by the ring of this number
pub record FindsInRing (source : File) (index number : ℕ) (placed : Placed) (x : Finding) : Type 0 where
  pub rule : Rule
  pub breaks : RingBreaks rule placed
  pub is : x ≡ finding_at rule source index number

-- a ring that is no hole
abbrev pub alone : Ring → Placed
alone ring = record { ring = ring; border = None }

-- a rule is broken by one of these rings of a feature, the first of which has this number
pub record FindsFrom (source : File) (index first : ℕ) (list : List Placed) (x : Finding) : Type 0 where
  pub place : ℕ
  pub placed : Placed
  pub there : slice_get list place ≡ Some placed
  pub finds : FindsInRing source index (first + place) placed x

-- a rule is broken by a ring of one of these shapes of a file
pub record FindsInShapes (source : File) (shapes : List Shape) (x : Finding) : Type 0 where
  pub place : ℕ
  pub shape : Shape
  pub there : slice_get shapes place ≡ Some shape
  pub finds : FindsFrom source place 0 (placed_rings shape) x
