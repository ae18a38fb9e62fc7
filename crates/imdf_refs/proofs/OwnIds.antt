-- Where no identifier stands twice, each feature has its own.
use Rattle.std.proofs.Common.{◌≡◌, ℕ, refl, sym, subst, arith, inl, inr}
use Rattle.std.proofs.lemmas.Bool.{cases_lt}
use Rattle.venue_types.specs.declared.feature_id.FeatureId.{FeatureId}
use Rattle.venue_types.specs.declared.features.Features.{Features}
use Rattle.venue_types.specs.declared.finding.Finding.{Finding}
use Rattle.venue_types.specs.declared.folder_file.File.{File}
use Rattle.venue_types.specs.FolderFiles.{file_number}
use Rattle.feature_rows.specs.Rows.{IsFeature, HaveOwnIds}
use Rattle.imdf_schema.specs.declared.rules.Rule.TheVariants.{C7}
use Rattle.imdf_refs.specs.Rules.{IsMisnamed, IsEarlier}
use Rattle.venue_types.proofs.FileNumbers.{same_number}

module _ (features : Features) (none : (x : Finding) → ¬ IsMisnamed features x) where
  -- no feature repeats an earlier one
  not_earlier : (f g : File) (k j : ℕ) (id : FeatureId) → IsFeature features f k id → IsFeature features g j id → ¬ IsEarlier g j f k
  not_earlier f g k j id here there earlier =
      none (record { rule = 23; file = file_number f; index = k; member = 0 }) (record {
        rule = C7;
        number = refl;
        breaks = inl (
          refl,
          record {
            source = f;
            repeats = record { id = id; here = here; source = g; place = j; there = there; earlier = earlier };
            in_file = refl;
            at_member = refl;
          },
        );
      })

  same_file : (f g : File) (k j : ℕ) (id : FeatureId) → IsFeature features f k id → IsFeature features g j id → f ≡ g
  same_file f g k j id here there = elim (cases_lt (file_number g) (file_number f)) [
    | inl before ↦ absurd (not_earlier f g k j id here there (inl before))
    | inr not_before ↦ elim (cases_lt (file_number f) (file_number g)) [
      | inl behind ↦ absurd (not_earlier g f j k id there here (inl behind))
      | inr not_behind ↦ same_number f g (omega (arith, not_before, not_behind))
    ]
  ]

  same_place : (f : File) (k j : ℕ) (id : FeatureId) → IsFeature features f k id → IsFeature features f j id → k ≡ j
  same_place f k j id here there = elim (cases_lt j k) [
    | inl before ↦ absurd (not_earlier f f k j id here there (inr (refl, before)))
    | inr not_before ↦ elim (cases_lt k j) [
      | inl behind ↦ absurd (not_earlier f f j k id there here (inr (refl, behind)))
      | inr not_behind ↦ omega (arith, not_before, not_behind)
    ]
  ]

  pub each_its_own : HaveOwnIds features
  each_its_own = record {
    own = λ f g k j id here there.
        let same = same_file f g k j id here there in
        (same, same_place f k j id here (subst (λ (h : File). IsFeature features h j id) (sym same) there));
  }
