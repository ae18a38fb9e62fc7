-- Which limit the rows pass first.
use Rattle.std.specs.Prelude.{◌≡◌, ℕ, ◌+◌, ◌*◌, ◌≤◌, ◌<◌, List, length, slice_get, slice_index_or, Option, Some, None, if◌then◌else◌}
use Rattle.venue_types.specs.declared.features.Features.{Features}
use Rattle.venue_types.specs.declared.features.UnitRow.{UnitRow}
use Rattle.plane_exact.specs.Figure.{all_edges}
use Rattle.venue_types.specs.declared.settings.Settings.{Settings}
use Rattle.venue_nodes.specs.declared.limits.Crowding.{Crowding}
use Rattle.venue_nodes.specs.declared.limits.Crowding.TheVariants.{Members, Squares, Nodes, Sight}
use Rattle.venue_types.specs.declared.finding.Finding.{Finding}
use Rattle.venue_types.specs.declared.folder_file.File.TheVariants as file
use Rattle.imdf_schema.specs.declared.rules.Rule.TheVariants as rule
use Rattle.imdf_schema.specs.Places.{finding_at}
use Rattle.venue_nodes.specs.declared.members.Rows.{Rows}
use Rattle.venue_nodes.specs.Nodes.{carries}
use Rattle.venue_nodes.specs.Limits.{IsCrowded, HasManyNodes, HasMuchSight, square_sum}
use Rattle.venue_nodes.specs.Rows.{row_list, unit_indexes}

-- no unit is crowded
abbrev pub NoneCrowded : Features → Settings → Type 0
NoneCrowded features settings = (k : ℕ) → ¬ IsCrowded features settings k

-- no unit is crowded, and the squares keep their limit
abbrev pub IsRoomyVenue : Features → Settings → Type 0
IsRoomyVenue features settings = NoneCrowded features settings × (square_sum features settings ≤ 20000000)

-- the unit of this index is the first that is crowded; or none is, and the squares pass their limit; or these keep it, and there are too
-- many nodes; or these are few, and there is too much to look through; or no limit is passed
abbrev pub Crowds : Features → Settings → Option Crowding → Type 0
Crowds features settings (Some (Members k)) = IsCrowded features settings k × ((j : ℕ) → j < k → ¬ IsCrowded features settings j)
Crowds features settings (Some Squares) = NoneCrowded features settings × (20000000 < square_sum features settings)
Crowds features settings (Some Nodes) = IsRoomyVenue features settings × HasManyNodes features settings
Crowds features settings (Some Sight) = IsRoomyVenue features settings × (¬ HasManyNodes features settings) × HasMuchSight features settings
Crowds features settings None = IsRoomyVenue features settings × (¬ HasManyNodes features settings) × (¬ HasMuchSight features settings)

-- what is told of a limit that is passed: the unit that is crowded, or of what is counted over all the first unit
abbrev pub limit_finding : Crowding → Finding
limit_finding (Members k) = finding_at rule.S5 file.Unit k 0
limit_finding Squares = finding_at rule.S6 file.Unit 0 0
limit_finding Nodes = finding_at rule.S7 file.Unit 0 0
limit_finding Sight = finding_at rule.S8 file.Unit 0 0

-- the row has room: it is no longer than its limit
abbrev pub IsRoomy : List ℕ → Type 0
IsRoomy row = length row ≤ 4096

-- the row of this number is there and too long, and each before it has room
pub record IsFirstFull (rows : List (List ℕ)) (w : ℕ) : Type 0 where
  pub row : List ℕ
  pub there : slice_get rows w ≡ Some row
  pub full : 4096 < length row
  pub before : (v : ℕ) (other : List ℕ) → v < w → slice_get rows v ≡ Some other → IsRoomy other

-- the unit of this index has the row of this number, and with so many openings as are counted for it too many members
pub record IsOver (rows : Rows) (counts : List ℕ) (w k : ℕ) : Type 0 where
  pub row : List ℕ
  pub there : slice_get (row_list rows) w ≡ Some row
  pub unit_is : slice_get (unit_indexes rows) w ≡ Some k
  pub over : 4096 < length row + slice_index_or counts k 0

-- it is the first of them
pub record IsFirstOver (rows : Rows) (counts : List ℕ) (k : ℕ) : Type 0 where
  pub w : ℕ
  pub is : IsOver rows counts w k
  pub before : (v j : ℕ) → v < w → ¬ IsOver rows counts v j

-- the square of the number of members in a row
abbrev pub square_of : List ℕ → ℕ
square_of row = length row * length row

-- how much there is to look through in a unit of so many members: their square, times the unit's edges; nothing where people are carried
abbrev pub sight_of : UnitRow → ℕ → ℕ
sight_of u count = if carries u then 0 else count * count * length (all_edges u.shape)

-- the same in the unit of this index; nothing where there is none
abbrev pub sight_at : List UnitRow → ℕ → ℕ → ℕ
sight_at units k count = elim (slice_get units k) [ None ↦ 0 | Some u ↦ sight_of u count ]
