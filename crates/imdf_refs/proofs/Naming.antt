-- What is found at a feature whose identifier an earlier one has.
use Rattle.std.proofs.Common.{◌≡◌, ◌∙◌, ℕ, ◌<◌, List, Bool, true, false, not, Some, refl, sym, ap, subst, ◌⊎◌, inl, inr}
use Rattle.std.specs.Prelude.{slice_get}
use Rattle.venue_types.specs.declared.feature_id.FeatureId.{FeatureId}
use Rattle.venue_types.specs.declared.features.Features.{Features}
use Rattle.venue_types.specs.declared.finding.Finding.{Finding}
use Rattle.venue_types.specs.declared.folder_file.File.{File}
use Rattle.venue_types.specs.FolderFiles.{file_number, feature_files}
use Rattle.feature_rows.specs.Rows.{ids_of, IsFeature}
use Rattle.rule_reports.specs.Passes.{Adds}
use Rattle.rule_reports.proofs.Adding.{Adds-same, Among}
use Rattle.imdf_refs.specs.declared.known.Known.{Known}
use Rattle.imdf_schema.specs.declared.rules.Rule.TheVariants as rule
use Rattle.imdf_schema.specs.Places.{finding_at}
use Rattle.imdf_refs.specs.Rules.{RepeatsEarlier}
use Rattle.imdf_refs.specs.Index.{has_id, IsNamedBefore, HasBefore}
use Rattle.imdf_refs.specs.Gathering.{RepeatsIn, Repeats}
use Rattle.venue_types.proofs.FileNumbers.{same_number}
use Rattle.imdf_refs.proofs.FileOrder.{place_among}

-- the feature at this place has the identifier of an earlier one
abbrev pub RepeatsAt : Features → File → ℕ → FeatureId → Finding → Type 0
RepeatsAt features f k id x = IsNamedBefore features (file_number f) k id × (x ≡ finding_at rule.C7 f k 0)

not_not : (a b : Bool) → a ≡ not b → not a ≡ true → b ≡ true
not_not a true e h = refl
not_not a false e h = cc

not_yes : (a b : Bool) → a ≡ not b → b ≡ true → not a ≡ true
not_yes a true e h = ap not e
not_yes a false e h = cc

-- whether the identifier is new decides it
pub told : (features : Features) (f : File) (k : ℕ) (id : FeatureId) (known : Known) (fresh : Bool) (place : Finding) (old new : List Finding)
    → HasBefore features (file_number f) k known → fresh ≡ not (has_id known id) → place ≡ finding_at rule.C7 f k 0
    → ((P : Finding → Type 0) → (not fresh ≡ true → P place) → ((x : Finding) → P x → (not fresh ≡ true) × (x ≡ place)) → Adds P old new)
    → Adds (RepeatsAt features f k id) old new
told features f k id known fresh place old new has is at adds =
    adds (RepeatsAt features f k id)
    (λ h. ((has.ids id).0 (not_not fresh (has_id known id) is h), at))
    (λ x h. (not_yes fresh (has_id known id) is ((has.ids id).1 h.0), h.1 ∙ sym at))

earlier : (source f : File) (place k : ℕ) → (file_number source < file_number f) ⊎ ((file_number source ≡ file_number f) × (place < k)) → (file_number source < file_number f) ⊎ ((source ≡ f) × (place < k))
earlier source f place k (inl h) = inl h
earlier source f place k (inr h) = inr (same_number source f h.0, h.1)

by_number : (source f : File) (place k : ℕ) → (file_number source < file_number f) ⊎ ((source ≡ f) × (place < k)) → (file_number source < file_number f) ⊎ ((file_number source ≡ file_number f) × (place < k))
by_number source f place k (inl h) = inl h
by_number source f place k (inr h) = inr (ap file_number h.0, h.1)

-- at each feature of a file
pub told_in_file : (features : Features) (f : File) (ids : List FeatureId) (old new : List Finding) → ids ≡ ids_of f features → Adds (Among (RepeatsAt features f) ids) old new → Adds (RepeatsIn features f) old new
told_in_file features f ids old new is adds = Adds-same (RepeatsIn features f) adds
    (λ x h.
    let at : h.place ≡ x.index = sym (ap (λ (z : Finding). z.index) h.holds.1) in
    let named = h.holds.0 in
    let there : IsFeature features f h.place h.item = subst (λ (xs : List FeatureId). slice_get xs h.place ≡ Some h.item) is h.there in
    record {
      repeats = subst (λ (k : ℕ). RepeatsEarlier features f k) at (record {
        id = h.item;
        here = there;
        source = named.source;
        place = named.place;
        there = named.there;
        earlier = earlier named.source f named.place h.place named.before;
      });
      is = h.holds.1 ∙ ap (λ (k : ℕ). finding_at rule.C7 f k 0) at;
    })
    (λ x h.
    let r = h.repeats in
    record {
      place = x.index;
      item = r.id;
      there = subst (λ (xs : List FeatureId). slice_get xs x.index ≡ Some r.id) (sym is) r.here;
      holds = (record { source = r.source; place = r.place; there = r.there; before = by_number r.source f r.place x.index r.earlier }, h.is);
    })

-- at each feature of each file
pub told_in_files : (features : Features) (old new : List Finding) → Adds (Among (λ i f. RepeatsIn features f) feature_files) old new → Adds (Repeats features) old new
told_in_files features old new adds = Adds-same (Repeats features) adds
    (λ x h. record { source = h.item; repeats = h.holds })
    (λ x h.
    let at = place_among h.source features x.index h.repeats.repeats.id h.repeats.repeats.here in
    record { place = at.0; item = h.source; there = at.1; holds = h.repeats })
