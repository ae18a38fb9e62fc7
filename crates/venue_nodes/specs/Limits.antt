-- The rules on how many members units may have, how many nodes a venue, and how much there may be to look through.
use Rattle.std.specs.Prelude.{◌≡◌, ℕ, ◌*◌, ◌<◌, sum_by, filter, length, slice_get, Some, IsTrue, not}
use Rattle.venue_types.specs.declared.features.Features.{Features}
use Rattle.venue_types.specs.declared.features.UnitRow.{UnitRow}
use Rattle.venue_types.specs.declared.finding.Finding.{Finding}
use Rattle.venue_types.specs.declared.settings.Inside.TheVariants.{Clear}
use Rattle.venue_types.specs.declared.settings.Settings.{Settings}
use Rattle.plane_exact.specs.Figure.{all_edges}
use Rattle.imdf_access.specs.Categories.{is_walkable}
use Rattle.venue_types.specs.declared.folder_file.File.TheVariants as file
use Rattle.imdf_schema.specs.declared.rules.Rule.{Rule}
use Rattle.imdf_schema.specs.declared.rules.Rule.TheVariants as rule
use Rattle.venue_types.specs.FolderFiles.{file_number}
use Rattle.imdf_schema.specs.Rules.{rule_number}
use Rattle.venue_nodes.specs.Nodes.{nodes, walkable_units, carries}
use Rattle.venue_nodes.specs.Members.{members}

-- how many members a walkable unit has
abbrev pub member_count : Features → Settings → UnitRow → ℕ
member_count features settings u = length (members features settings u)

-- the unit of this index can be walked through and has more than 4,096 members
pub record IsCrowded (features : Features) (settings : Settings) (k : ℕ) : Type 0 where
  pub unit : UnitRow
  pub there : slice_get features.units k ≡ Some unit
  pub walkable : IsTrue (is_walkable unit.category)
  pub many : 4096 < member_count features settings unit

-- the squares of the numbers of members, summed over all walkable units, moving walkways too
abbrev pub square_sum : Features → Settings → ℕ
square_sum features settings = sum_by (λ u. member_count features settings u * member_count features settings u) (walkable_units features)

-- one walks round walls, and there are more than 400,000 nodes
abbrev pub HasManyNodes : Features → Settings → Type 0
HasManyNodes features settings = (settings.inside ≡ Clear) × (400000 < length (nodes features settings))

-- the square of the number of members, times the number of edges of the unit's rings
abbrev pub sight_square : Features → Settings → UnitRow → ℕ
sight_square features settings u = member_count features settings u * member_count features settings u * length (all_edges u.shape)

-- the same, summed over the walkable units that are no moving walkways
abbrev pub sight_sum : Features → Settings → ℕ
sight_sum features settings = sum_by (sight_square features settings) (filter (λ u. not (carries u)) (walkable_units features))

-- one walks round walls, and that sum passes 2,000,000,000
abbrev pub HasMuchSight : Features → Settings → Type 0
HasMuchSight features settings = (settings.inside ≡ Clear) × (2000000000 < sight_sum features settings)

-- the rule is broken, which is told of the unit of this index: the first crowded one; for what is counted over all the first of all
abbrev pub LimitBreaks : Rule → Features → Settings → ℕ → Type 0
LimitBreaks rule.S5 features settings k = IsCrowded features settings k × ((j : ℕ) → j < k → ¬ IsCrowded features settings j)
LimitBreaks rule.S6 features settings k = (20000000 < square_sum features settings) × (k ≡ 0)
LimitBreaks rule.S7 features settings k = HasManyNodes features settings × (k ≡ 0)
LimitBreaks rule.S8 features settings k = HasMuchSight features settings × (k ≡ 0)
LimitBreaks _ features settings k = ⊥

-- a limit is passed, and none of the rules before it is broken
pub record BreaksLimit (features : Features) (settings : Settings) (x : Finding) : Type 0 where
  pub rule : Rule
  pub number : x.rule ≡ rule_number rule
  pub breaks : LimitBreaks rule features settings x.index
  pub first : (before : Rule) (k : ℕ) → rule_number before < rule_number rule → ¬ LimitBreaks before features settings k
  pub in_file : x.file ≡ file_number file.Unit
  pub at_member : x.member ≡ 0
