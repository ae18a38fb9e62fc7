-- What the parts of the pass judge.
use Rattle.std.specs.Prelude.{◌≡◌, ℕ, ◌≤◌, ◌∷◌, List, Some, Any, Contains, slice_get}
use Rattle.venue_types.specs.declared.feature_id.FeatureId.{FeatureId}
use Rattle.venue_types.specs.declared.features.Features.{Features}
use Rattle.venue_types.specs.declared.features.UnitRow.{UnitRow}
use Rattle.venue_types.specs.declared.finding.Finding.{Finding}
use Rattle.venue_types.specs.declared.point.Point.{Point}
use Rattle.venue_types.specs.declared.point.Shape.{Shape}
use Rattle.imdf_schema.specs.declared.rules.Rule.{Rule}
use Rattle.imdf_schema.specs.Places.{finding_at}
use Rattle.feature_rows.specs.Figures.{judged_positions}
use Rattle.plane_exact.specs.Figure.{AllClose, vertices}
use Rattle.contain_rules.specs.declared.holders.Holders.{Holders}
use Rattle.contain_rules.specs.Holders.{AreHolders}
use Rattle.feature_rows.specs.Named.{IsUnit}
use Rattle.contain_rules.specs.Rules.{IsHeld, file_judged}

-- each of the positions is close to the shape
pub record AreBeside (shape : Shape) (points : List Point) : Type 0 where
  pub beside : (p : Point) → Contains points p → AllClose (p ∷ vertices shape)

-- one of the positions is not held by the shape
abbrev pub SomeLeaves : ℕ → Shape → List Point → Type 0
SomeLeaves tolerance shape points = Any (λ p. ¬ IsHeld tolerance shape p) points

-- some unit of this identifier holds the position
abbrev pub UnitHolds : Features → ℕ → Point → FeatureId → Type 0
UnitHolds features tolerance p id = (unit : UnitRow) × IsUnit features id unit × IsHeld tolerance unit.shape p

-- one of these units holds the position
abbrev pub OneHolds : Features → ℕ → Point → List FeatureId → Type 0
OneHolds features tolerance p ids = Any (λ id. UnitHolds features tolerance p id) ids

-- what the rules need: positions that are close, a tolerance in its range, and the indexes
pub record CanJudge (features : Features) (tolerance : ℕ) (holders : Holders) : Type 0 where
  pub close : AllClose (judged_positions features)
  pub range : tolerance ≤ 1000000
  pub indexed : AreHolders features holders

-- the finding that the rule is broken by the feature at this place
abbrev pub hold_finding : Rule → ℕ → Finding
hold_finding rule index = finding_at rule (file_judged rule) index 0

-- one of the rows leaves what is to hold it, which is told of it as this rule's break
pub record BreaksIn {R : Type 0} (Leaves : R → Type 0) (rows : List R) (rule : Rule) (x : Finding) : Type 0 where
  pub row : R
  pub there : slice_get rows x.index ≡ Some row
  pub leaves : Leaves row
  pub is : x ≡ hold_finding rule x.index
