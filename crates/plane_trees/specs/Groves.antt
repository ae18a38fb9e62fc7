-- How the code keeps many rings and their octagons: machinery of `Bands`, named by no public clause.
use Rattle.std.specs.Prelude.{◌≡◌, ℕ, ◌+◌, ◌*◌, ◌<◌, ◌%◌, List, ◌++◌, Contains, All, IsTrue}
use Rattle.venue_types.specs.declared.point.Point.{Point}
use Rattle.venue_types.specs.declared.point.Ring.{Ring}
use Rattle.plane_trees.specs.declared.groves.Over.{Over}
use Rattle.plane_trees.specs.declared.groves.Grove.{Grove}
use Rattle.plane_exact.specs.Figure.{ring_points}
use Rattle.plane_trees.specs.Trees.{IsGrove, IsClosedRing}

-- its octagons are a grove of its rings
abbrev pub IsSoundGrove : Point → Grove → Type 0
IsSoundGrove origin grove = IsGrove grove.depth origin grove.octagons.now grove.rings.now

-- the two groves make up the grove
pub record AreGroveHalves (grove front back : Grove) : Type 0 where
  pub rings : grove.rings.now ≡ front.rings.now ++ back.rings.now
  pub front_sound : (origin : Point) → IsSoundGrove origin grove → IsSoundGrove origin front
  pub back_sound : (origin : Point) → IsSoundGrove origin grove → IsSoundGrove origin back
  pub front_depth : front.depth < grove.depth
  pub back_depth : back.depth < grove.depth

-- what is kept over the rings is true of them
pub record IsOver (list : List Ring) (over : Over) : Type 0 where
  pub origin : Contains (ring_points list) over.origin
  pub octagons : IsGrove over.depth over.origin over.octagons.items list
  pub closed : IsTrue over.closed → All IsClosedRing list
