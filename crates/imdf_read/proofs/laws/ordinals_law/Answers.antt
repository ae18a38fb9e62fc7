use Rattle.std.proofs.Common.{◌≡◌, pos, neg_ℤ, refl, arith}
use Rattle.std.specs.Prelude.{ℤ, ◌<ℤ◌, ◌*ℤ◌}
use Rattle.std.proofs.lemmas.Int.{ints, by_lt_z}
use Rattle.exact_json.specs.Json.{Json}
use Rattle.geo_decimal.specs.Value.{IsWithin}
use Rattle.venue_types.specs.declared.features.LevelRow.{LevelRow}
use Rattle.venue_types.specs.declared.folder_file.File.TheVariants as file
use Rattle.imdf_rows.specs.Rows.{IsLevelRow}
use Rattle.imdf_schema.specs.declared.rules.Rule.TheVariants.{L1}
use Rattle.imdf_read.specs.Ordinals.{IsInRange}
use Rattle.imdf_read.proofs.Nothing.{BreaksNone, is_feature_of}
use Rattle.imdf_read.proofs.Shapes.{all_kept}
use Rattle.imdf_read.proofs.laws.ordinals_law.Goals as goal

not_below : (m n : ℤ) → m ≡ n → IsWithin (n *ℤ pos 1000000000) → m <ℤ neg_ℤ (pos 180) → ⊥
not_below m n same within low = omega (arith, ints, within.0, within.1)

not_above : (m n : ℤ) → m ≡ n → IsWithin (n *ℤ pos 1000000000) → pos 180 <ℤ m → ⊥
not_above m n same within high = omega (arith, ints, within.0, within.1)

-- a level breaks no rule, so its ordinal is there, and lies in the range
in_range : (v : Json) (row : LevelRow) → BreaksNone file.Level v → IsLevelRow v row → IsInRange row
in_range v row keeps is =
    let feature = is_feature_of file.Level v keeps in
    let low : ¬ (row.ordinal <ℤ neg_ℤ (pos 180)) = λ h. keeps L1 0 (refl, feature, (λ n whole. not_below row.ordinal n (is.ordinal n whole) whole.whole.within h), refl) in
    let high : ¬ (pos 180 <ℤ row.ordinal) = λ h. keeps L1 0 (refl, feature, (λ n whole. not_above row.ordinal n (is.ordinal n whole) whole.whole.within h), refl) in
    (by_lt_z row.ordinal (neg_ℤ (pos 180)) (λ h. absurd (low h)) (λ h. h), by_lt_z (pos 180) row.ordinal (λ h. absurd (high h)) (λ h. h))

pub returns : goal.returns
returns c = λ files features none rows. all_kept IsLevelRow IsInRange files file.Level features.levels (λ v row kept. in_range v row kept.0 kept.1) none (λ e. cc) rows.levels
