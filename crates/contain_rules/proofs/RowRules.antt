-- What a rule on one feature says, by the only one that is to hold it.
use Rattle.std.proofs.Common.{◌≡◌, ◌≢◌, ℕ, Bool, true, false, not, IsTrue, ◌↔◌, refl, subst}
use Rattle.std.specs.Prelude.{Contains}
use Rattle.venue_types.specs.declared.feature_id.FeatureId.{FeatureId}
use Rattle.venue_types.specs.declared.features.Features.{Features}
use Rattle.venue_types.specs.declared.features.AmenityRow.{AmenityRow}
use Rattle.venue_types.specs.declared.features.AnchorRow.{AnchorRow}
use Rattle.venue_types.specs.declared.features.LevelRow.{LevelRow}
use Rattle.venue_types.specs.declared.features.OpeningRow.{OpeningRow}
use Rattle.venue_types.specs.declared.features.UnitRow.{UnitRow}
use Rattle.venue_types.specs.declared.point.Point.{Point}
use Rattle.plane_exact.specs.Figure.{vertices}
use Rattle.contain_rules.specs.Rules.{IsHeld, UnitLeaves, AnchorLeaves, AmenityLeaves, OpeningLeaves}
use Rattle.feature_rows.specs.Indexes.{IsOnlyRow}
use Rattle.contain_rules.specs.Judging.{SomeLeaves, UnitHolds, OneHolds}
use Rattle.contain_rules.proofs.Lists.{any_item, item_any}

abbrev pub IsOnlyLevel : Features → FeatureId → LevelRow → Type 0
IsOnlyLevel features id level = IsOnlyRow (λ (row : LevelRow). row.id) features.levels id level

abbrev pub IsOnlyUnit : Features → FeatureId → UnitRow → Type 0
IsOnlyUnit features id unit = IsOnlyRow (λ (row : UnitRow). row.id) features.units id unit

abbrev pub HasNoLevel : Features → FeatureId → Type 0
HasNoLevel features id = (level : LevelRow) → Contains features.levels level → level.id ≢ id

abbrev pub HasNoUnit : Features → FeatureId → Type 0
HasNoUnit features id = (unit : UnitRow) → Contains features.units unit → unit.id ≢ id

pub unit_rule : (features : Features) (t : ℕ) (unit : UnitRow) (level : LevelRow) → IsOnlyLevel features unit.level level → SomeLeaves t level.shape (vertices unit.shape) ↔ UnitLeaves features t unit
unit_rule features t unit level the = (
  (λ some. let one = any_item (λ p. ¬ IsHeld t level.shape p) (vertices unit.shape) some in record { level = level; its = record { has = the.has; named = the.named }; vertex = one.0; has = one.1; outside = one.2 }),
  (λ u. item_any (λ p. ¬ IsHeld t level.shape p) (vertices unit.shape) u.vertex u.has (subst (λ (l : LevelRow). ¬ IsHeld t l.shape u.vertex) (the.only u.level u.its.has u.its.named) u.outside)),
)

pub no_level_of_unit : (features : Features) (t : ℕ) (unit : UnitRow) → HasNoLevel features unit.level → ¬ UnitLeaves features t unit
no_level_of_unit features t unit none u = none u.level u.its.has u.its.named

pub opening_rule : (features : Features) (t : ℕ) (opening : OpeningRow) (level : LevelRow) → IsOnlyLevel features opening.level level → SomeLeaves t level.shape opening.line.points ↔ OpeningLeaves features t opening
opening_rule features t opening level the = (
  (λ some. let one = any_item (λ p. ¬ IsHeld t level.shape p) opening.line.points some in record { level = level; its = record { has = the.has; named = the.named }; vertex = one.0; has = one.1; outside = one.2 }),
  (λ u. item_any (λ p. ¬ IsHeld t level.shape p) opening.line.points u.vertex u.has (subst (λ (l : LevelRow). ¬ IsHeld t l.shape u.vertex) (the.only u.level u.its.has u.its.named) u.outside)),
)

pub no_level_of_opening : (features : Features) (t : ℕ) (opening : OpeningRow) → HasNoLevel features opening.level → ¬ OpeningLeaves features t opening
no_level_of_opening features t opening none u = none u.level u.its.has u.its.named

turned : (b : Bool) (P : Type 0) → (IsTrue b ↔ P) → IsTrue (not b) ↔ (¬ P)
turned true P h = ((λ e. cc), (λ none. absurd (none (h.0 refl))))
turned false P h = ((λ e p. let c : false ≡ true = h.1 p in cc), (λ none. refl))

pub anchor_rule : (features : Features) (t : ℕ) (anchor : AnchorRow) (unit : UnitRow) (held : Bool) → IsOnlyUnit features anchor.unit unit → (IsTrue held ↔ IsHeld t unit.shape anchor.point) → IsTrue (not held) ↔ AnchorLeaves features t anchor
anchor_rule features t anchor unit held the decides =
    let both = turned held (IsHeld t unit.shape anchor.point) decides in (
      (λ e. record { unit = unit; its = record { has = the.has; named = the.named }; outside = both.0 e }),
      (λ a. both.1 (subst (λ (u : UnitRow). ¬ IsHeld t u.shape anchor.point) (the.only a.unit a.its.has a.its.named) a.outside)),
    )

pub no_unit_of_anchor : (features : Features) (t : ℕ) (anchor : AnchorRow) → HasNoUnit features anchor.unit → ¬ AnchorLeaves features t anchor
no_unit_of_anchor features t anchor none a = none a.unit a.its.has a.its.named

pub unit_holding : (features : Features) (t : ℕ) (p : Point) (id : FeatureId) (unit : UnitRow) → IsOnlyUnit features id unit → IsHeld t unit.shape p ↔ UnitHolds features t p id
unit_holding features t p id unit the = (
  (λ h. (unit, record { has = the.has; named = the.named }, h)),
  (λ u. subst (λ (w : UnitRow). IsHeld t w.shape p) (the.only u.0 u.1.has u.1.named) u.2),
)

pub no_unit_holding : (features : Features) (t : ℕ) (p : Point) (id : FeatureId) → HasNoUnit features id → ¬ UnitHolds features t p id
no_unit_holding features t p id none u = none u.0 u.1.has u.1.named

-- an amenity leaves its units where none of them holds it
pub amenity_rule : (features : Features) (t : ℕ) (amenity : AmenityRow) (holds : Bool) → (IsTrue holds ↔ OneHolds features t amenity.point amenity.units) → IsTrue (not holds) ↔ AmenityLeaves features t amenity
amenity_rule features t amenity holds decides =
    let both = turned holds (OneHolds features t amenity.point amenity.units) decides in
    let P : FeatureId → Type 0 = λ id. UnitHolds features t amenity.point id in (
      (λ e. record { outside = λ id unit has is held. both.0 e (item_any P amenity.units id has (unit, is, held)) }),
      (λ leaves. both.1 (λ some.
          let one = any_item P amenity.units some in
          let held = one.2 in
          leaves.outside one.0 held.0 one.1 held.1 held.2)),
    )

-- nothing holds it, for what isn't there
pub never : (P : Type 0) → ¬ P → IsTrue false ↔ P
never P none = ((λ e. cc), (λ p. absurd (none p)))
