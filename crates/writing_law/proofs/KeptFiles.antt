-- The files of the fixed form break no rule on files.
use Rattle.std.proofs.Common.{◌≡◌, ◌≢◌, ℕ, ◌<◌, List, [], ◌∷◌, length, Option, Some, None, Bool, true, false, ◌||◌, ◌⊎◌, inl, inr, refl, sym, ap, ◌∙◌, subst, arith, codes}
use Rattle.std.specs.Prelude.{All}
use Rattle.std.proofs.lemmas.List.{length-map}
use Rattle.exact_json.specs.Json.{Json, member, depth}
use Rattle.exact_json.specs.Grammar.{IsJson}
use Rattle.imdf_write.specs.Compact.{compact}
use Rattle.geo_shapes.specs.Numbers.{SameNumbers}
use Rattle.venue_types.specs.declared.features.Features.{Features}
use Rattle.venue_types.specs.declared.files.Slot.{Slot}
use Rattle.venue_types.specs.declared.files.Slot.TheVariants.{Absent, Held}
use Rattle.venue_types.specs.declared.folder_file.File.{File}
use Rattle.venue_types.specs.declared.folder_file.File.TheVariants as file
use Rattle.imdf_schema.specs.Values.{is_null, is_text, is_word}
use Rattle.imdf_schema.specs.Items.{is_collection, items_in}
use Rattle.imdf_schema.specs.Contents.{IsNoText, IsDeep, HasValue, IsSlotOf}
use Rattle.imdf_schema.specs.declared.rules.Rule.{Rule}
use Rattle.imdf_schema.specs.declared.rules.Rule.TheVariants.{F1, F2, F3, F4, M1, M2, M3, C1, V1}
use Rattle.imdf_read.specs.Broken.{FileBreaks}
use Rattle.imdf_write.specs.Rows.{venue_feature}
use Rattle.imdf_write.specs.Folder.{manifest, features_of, collection, collection_file, canonical_file}
use Rattle.writing_law.specs.Spelled.{IsSpelled}
use Rattle.writing_law.specs.Written.{FitsFeatures, written, IsWithinLimit, content_of}
use Rattle.writing_law.proofs.Lists.{items_back}
use Rattle.writing_law.proofs.Spelled.{deeper}
use Rattle.writing_law.proofs.Files.{SpellsItself, collection_spelled, manifest_spelled, slot_there, slot_of, small_there, features_spelled}

-- a text has at most one value
abbrev pub HasOneJson : Type 0
HasOneJson = (b : List ℕ) (j k : Json) → IsJson b j → IsJson b k → j ≡ k

-- the slot is empty, or has the compact text of a value that it spells
abbrev IsGoodSlot : Slot → Type 0
IsGoodSlot slot = (slot ≡ Absent) ⊎ ((v : Json) × (slot ≡ Held (compact v)) × IsSpelled 8 v)

collection_good : (vs : List Json) → All (IsSpelled 6) vs → IsGoodSlot (collection_file vs)
collection_good [] all = inl refl
collection_good (v ∷ vs) all = inr (collection (v ∷ vs), refl, collection_spelled (v ∷ vs) all)

not_both : (b : Bool) → b ≡ true → b ≡ false → ⊥
not_both b p q = cc

module _ (spells : SpellsItself) (one : HasOneJson) where
  good_text : (slot : Slot) → IsGoodSlot slot → ¬ IsNoText slot
  good_text slot (inl none) broken = subst IsNoText none broken
  good_text slot (inr held) broken =
      let bad : IsNoText (Held (compact held.0)) = subst IsNoText held.1 broken in
      bad.1 held.0 (spells held.0 held.2.numbers held.2.texts)

  good_depth : (slot : Slot) → IsGoodSlot slot → ¬ IsDeep slot
  good_depth slot (inl none) broken = subst IsDeep none broken
  good_depth slot (inr held) broken =
      let bad : IsDeep (Held (compact held.0)) = subst IsDeep held.1 broken in
      let same : held.0 ≡ bad.1.0 = one (compact held.0) held.0 bad.1.0 (spells held.0 held.2.numbers held.2.texts) bad.1.1 in
      let deep : 64 < depth held.0 = subst (λ (v : Json). 64 < depth v) (sym same) bad.1.2 in
      let flat = held.2.deep in
      omega arith

  -- the value of a collection's file is the collection
  value_of : (vs : List Json) → All (IsSpelled 6) vs → (w : Json) → HasValue (collection_file vs) w → content_of vs ≡ Some w
  value_of [] all w h = absurd h
  value_of (v ∷ vs) all w h =
      let spelled = collection_spelled (v ∷ vs) all in
      ap Some (one (compact (collection (v ∷ vs))) (collection (v ∷ vs)) w (spells (collection (v ∷ vs)) spelled.numbers spelled.texts) h.1)

  manifest_value : (w : Json) → HasValue (Held (compact manifest)) w → manifest ≡ w
  manifest_value w h = one (compact manifest) manifest w (spells manifest manifest_spelled.numbers manifest_spelled.texts) h.1

collection_is : (vs : List Json) (w : Json) → content_of vs ≡ Some w → is_collection w ≡ true
collection_is [] w e = absurd (let no : None ≡ Some w = e in cc)
collection_is (v ∷ vs) w e = let same : collection (v ∷ vs) ≡ w = cc in subst (λ (j : Json). is_collection j ≡ true) same refl

items_are : (vs : List Json) (w : Json) → content_of vs ≡ Some w → items_in w ≡ vs
items_are [] w e = absurd (let no : None ≡ Some w = e in cc)
items_are (v ∷ vs) w e = let same : collection (v ∷ vs) ≡ w = cc in subst (λ (j : Json). items_in j ≡ v ∷ vs) same (items_back (v ∷ vs))

not_absent : (vs : List Json) → length vs ≡ 1 → collection_file vs ≢ Absent
not_absent [] long e = omega (arith, long)
not_absent (v ∷ vs) long e = cc

module _ (spells : SpellsItself) (one : HasOneJson) (same : SameNumbers) (features : Features) (fits : FitsFeatures features) (limit : IsWithinLimit features) where
  good_slot : (f : File) → IsGoodSlot (canonical_file features f)
  good_slot f = elim (manifest_or f) [
    | inl e ↦ subst (λ g. IsGoodSlot (canonical_file features g)) (sym e) (inr (manifest, refl, deeper 1 8 manifest (omega arith) manifest_spelled))
    | inr not_manifest ↦ subst IsGoodSlot (sym (slot_of features f not_manifest)) (collection_good (features_of f features) (features_spelled same features f fits))
  ]
    where
      manifest_or : (f : File) → (f ≡ file.Manifest) ⊎ (f ≢ file.Manifest)
      manifest_or file.Manifest = inl refl
      manifest_or f = inr (λ e. cc)

  value_there : (f : File) (w : Json) → f ≢ file.Manifest → HasValue (canonical_file features f) w → content_of (features_of f features) ≡ Some w
  value_there f w not_manifest h =
      value_of spells one (features_of f features) (features_spelled same features f fits) w (subst (λ (s : Slot). HasValue s w) (slot_of features f not_manifest) h)

  manifest_there : (f : File) (w : Json) → f ≡ file.Manifest → HasValue (canonical_file features f) w → manifest ≡ w
  manifest_there f w e h = manifest_value spells one w (subst (λ (g : File). HasValue (canonical_file features g) w) e h)

  keeps : (r : Rule) (f : File) → ¬ FileBreaks r f (canonical_file features f)
  keeps F1 f b = let e : canonical_file features file.Manifest ≡ Absent = subst (λ (g : File). canonical_file features g ≡ Absent) b.0 b.1 in held_absent (compact manifest) e
    where
      held_absent : (bytes : List ℕ) → Held bytes ≢ Absent
      held_absent bytes e = cc
  keeps F2 f b = small_there features f limit b
  keeps F3 f b = good_text spells one (canonical_file features f) (good_slot f) b
  keeps F4 f b = good_depth spells one (canonical_file features f) (good_slot f) b
  keeps M1 f b = not_both _ (subst (λ (v : Json). is_word (member v (codes "version")) (codes "1.0.0") ≡ true) (manifest_there f b.1.0 b.0 b.1.1) refl) b.1.2
  keeps M2 f b = not_both _ (subst (λ (v : Json). is_text (member v (codes "created")) ≡ true) (manifest_there f b.1.0 b.0 b.1.1) refl) b.1.3
  keeps M3 f b = not_both _ (subst (λ (v : Json). (is_null (member v (codes "language")) || is_text (member v (codes "language"))) ≡ true) (manifest_there f b.1.0 b.0 b.1.1) refl) b.1.3
  keeps C1 f b = not_both _ (collection_is (features_of f features) b.1.0 (value_there f b.1.0 b.0 b.1.1)) b.1.2
  keeps V1 f b =
      let venue : f ≢ file.Manifest = λ e. let same : file.Venue ≡ file.Manifest = sym b.0 ∙ e in cc in
      let long : length (features_of file.Venue features) ≡ 1 = length-map features.venues (venue_feature file.Venue) ∙ fits.sound.one_venue in
      let here : length (features_of f features) ≡ 1 = subst (λ (g : File). length (features_of g features) ≡ 1) (sym b.0) long in
      elim b.1 [
        | inl none ↦ not_absent (features_of f features) here (sym (slot_of features f venue) ∙ none)
        | inr w ↦ w.3 (ap length (items_are (features_of f features) w.0 (value_there f w.0 venue w.1)) ∙ here)
      ]
  keeps _ f b = b

  -- no file breaks a rule on files
  pub file_keeps : (r : Rule) (f : File) (slot : Slot) → IsSlotOf (written features) f slot → ¬ FileBreaks r f slot
  file_keeps r f slot at b =
      let there = slot_there features f in
      let is : canonical_file features f ≡ slot = same_slot (canonical_file features f) slot _ there at in
      keeps r f (subst (λ (s : Slot). FileBreaks r f s) (sym is) b)
    where
      same_slot : (a b : Slot) (o : Option Slot) → o ≡ Some a → o ≡ Some b → a ≡ b
      same_slot a b o p q = cc
