-- Where no rule of the second phase is broken, a reference names a feature of its type.
use Rattle.std.proofs.Common.{◌≡◌, ◌≢◌, ◌∙◌, ℕ, zero, suc, ◌+◌, ◌*◌, List, [], ◌∷◌, Bool, true, false, ◌⊎◌, inl, inr, Some, eqb, refl, sym, ap, subst}
use Rattle.std.specs.Prelude.{slice_get}
use Rattle.std.proofs.lemmas.Bool.{eqb-true, eq-eqb, false≢true}
use Rattle.std.proofs.lemmas.Option.{same_Some}
use Rattle.venue_types.specs.declared.feature_id.FeatureId.{FeatureId}
use Rattle.venue_types.specs.declared.features.Features.{Features}
use Rattle.venue_types.specs.declared.folder_file.File.{File}
use Rattle.imdf_schema.specs.declared.table.PropertyRow.{PropertyRow}
use Rattle.venue_types.specs.FolderFiles.{file_number}
use Rattle.imdf_schema.specs.Rules.{rule_number}
use Rattle.imdf_schema.specs.Properties.{property_number}
use Rattle.feature_rows.specs.Rows.{ids_of}
use Rattle.imdf_schema.specs.declared.rules.Rule.{Rule}
use Rattle.imdf_schema.specs.declared.rules.Rule.TheVariants.{X1, X2}
use Rattle.imdf_refs.specs.References.{Reference, Refers}
use Rattle.imdf_refs.specs.Rules.{IsTyped, IsOfOtherType, ReferenceBreaks}
use Rattle.imdf_refs.specs.Laws.{FindsNothing, NameTheirTypes}
use Rattle.venue_types.proofs.FileNumbers.{file_at, at_number, same_number}

by_bool : {A : Type 0} (b : Bool) → (b ≡ true → A) → (b ≡ false → A) → A
by_bool true f g = f refl
by_bool false f g = g refl

same_id : (a b : FeatureId) → eqb a.0 b.0 ≡ true → a ≡ b
same_id a b e = ap (λ (n : ℕ). let id : FeatureId = record { 0 = n } in id) (eqb-true a.0 b.0 e)

-- an identifier stands in the list, or nowhere in it
abbrev Stands : List FeatureId → FeatureId → Type 0
Stands xs id = (j : ℕ) × (slice_get xs j ≡ Some id)

sought : (xs : List FeatureId) (id : FeatureId) → Stands xs id ⊎ (¬ Stands xs id)
sought [] id = inr (λ h. nowhere h.0 h.1)
  where
    nowhere : (j : ℕ) → slice_get [] j ≡ Some id → ⊥
    nowhere j e = cc
sought (x ∷ xs) id = by_bool (eqb x.0 id.0)
    (λ yes. inl (0, ap (λ (y : FeatureId). Some y) (same_id x id yes)))
    (λ no. elim (sought xs id) [ inl h ↦ inl (suc h.0, h.1) | inr none ↦ inr (λ h. nowhere no none h.0 h.1) ])
  where
    nowhere : eqb x.0 id.0 ≡ false → ¬ Stands xs id → (j : ℕ) → slice_get (x ∷ xs) j ≡ Some id → ⊥
    nowhere differs none zero e = false≢true (sym differs ∙ eq-eqb x.0 id.0 (ap (λ (y : FeatureId). y.0) (same_Some x id e)))
    nowhere differs none (suc j) e = none (j, e)

-- a file has the number, or none has
numbered : (n : ℕ) → ((f : File) × (file_number f ≡ n)) ⊎ ((f : File) → file_number f ≢ n)
numbered n = by_bool (eqb (file_number (file_at n)) n)
    (λ yes. inl (file_at n, eqb-true (file_number (file_at n)) n yes))
    (λ no. inr (λ f e. false≢true (sym no ∙ eq-eqb (file_number (file_at n)) n (ap file_number (ap file_at (sym e) ∙ at_number f) ∙ e))))

typed_or_not : (features : Features) (id : FeatureId) (n : ℕ) → IsTyped features id n ⊎ (¬ IsTyped features id n)
typed_or_not features id n = elim (numbered n) [
  | inl f ↦ elim (sought (ids_of f.0 features) id) [
    | inl h ↦ inl (record { source = f.0; place = h.0; there = h.1; of_file = f.1 })
    | inr none ↦ inr (λ t. none (t.place, subst (λ (g : File). slice_get (ids_of g features) t.place ≡ Some id) (same_number t.source f.0 (t.of_file ∙ sym f.1)) t.there))
  ]
  | inr none ↦ inr (λ t. none t.source t.of_file)
]

module _ (features : Features) (nothing : FindsNothing features) where
  -- no rule on a reference is broken
  unbroken : (rule : Rule) (row : PropertyRow) (k place : ℕ) (r : Reference) → Refers features row k place r → ¬ ReferenceBreaks rule features row r
  unbroken rule row k place r there breaks =
      nothing (record { rule = rule_number rule; file = file_number row.file; index = k; member = property_number row.property + 64 * place })
      (record { rule = rule; number = refl; breaks = inr (record { row = row; place = place; reference = r; there = there; breaks = breaks; in_file = refl; at_member = refl }) })

  pub name_their_types : NameTheirTypes features
  name_their_types row k place r f there asked = elim (typed_or_not features r.id f) [
    | inl typed ↦ typed
    | inr none ↦
        let other : IsOfOtherType features row r = λ g j h e. none (record { source = g; place = j; there = h; of_file = sym (same_Some f (file_number g) (sym asked ∙ e)) }) in
        absurd (unbroken X1 row k place r there (λ named. unbroken X2 row k place r there (named, other)))
  ]
