-- In files where the first phase finds nothing, no rule is broken: each feature file is a collection, and each of its items a feature.
use Rattle.std.proofs.Common.{◌≡◌, ◌≢◌, ℕ, ◌^◌, ◌<◌, ◌≤◌, Option, Some, None, Bool, true, false, ◌&&◌, if◌then◌else◌, length, refl, ap, ◌∙◌, arith, inl, inr}
use Rattle.std.specs.Prelude.{slice_get}
use Rattle.exact_json.specs.Json.{Json, depth}
use Rattle.venue_types.specs.declared.files.Files.{Files}
use Rattle.venue_types.specs.declared.files.Slot.{Slot}
use Rattle.venue_types.specs.declared.files.Slot.TheVariants.{Absent, Held}
use Rattle.venue_types.specs.declared.finding.Finding.{Finding}
use Rattle.venue_types.specs.declared.folder_file.File.{File}
use Rattle.venue_types.specs.declared.folder_file.File.TheVariants as file
use Rattle.venue_types.specs.FolderFiles.{geometry_of}
use Rattle.imdf_schema.specs.Items.{is_collection, is_feature, items_in, geometry, fits_geometry}
use Rattle.imdf_schema.specs.Contents.{IsSlotOf, HasValue, HasContent, content_items}
use Rattle.imdf_schema.specs.declared.rules.Rule.{Rule}
use Rattle.imdf_schema.specs.declared.rules.Rule.TheVariants.{F2, F3, F4, C1, C2, C5, V1}
use Rattle.imdf_read.specs.Counts.{is_judged, collected}
use Rattle.imdf_read.specs.Broken.{FolderBreaks, FileBreaks, ItemBreaks, IsBroken}
use Rattle.imdf_schema.specs.Places.{finding_at}

-- the first phase finds nothing
abbrev pub FindsNothing : Files → Type 0
FindsNothing files = (x : Finding) → ¬ IsBroken files x

-- the item of this file breaks no rule
abbrev pub BreaksNone : File → Json → Type 0
BreaksNone f v = (r : Rule) (place : ℕ) → ¬ ItemBreaks r f v place

pub folder_keeps : (files : Files) (r : Rule) → FindsNothing files → ¬ FolderBreaks r files
folder_keeps files r none b = none (finding_at r file.Manifest 0 0) (record {
  rule = r;
  number = refl;
  breaks = inl (b, record { in_file = refl; at_index = refl; at_member = refl });
})

pub file_keeps : (files : Files) (r : Rule) (f : File) (slot : Slot) → FindsNothing files → IsSlotOf files f slot → ¬ FileBreaks r f slot
file_keeps files r f slot none held b = none (finding_at r f 0 0) (record {
  rule = r;
  number = refl;
  breaks = inr (inl (record { source = f; slot = slot; held = held; breaks = b; at = record { in_file = refl; at_index = refl; at_member = refl } }));
})

pub item_keeps : (files : Files) (f : File) (c : Option Json) → FindsNothing files → f ≢ file.Manifest → HasContent files f c → (k : ℕ) (v : Json) → slice_get (content_items c) k ≡ Some v → BreaksNone f v
item_keeps files f c none features held k v there r place b = none (finding_at r f k place) (record {
  rule = r;
  number = refl;
  breaks = inr (inr (record { source = f; features = features; content = c; held = held; item = v; there = there; breaks = b; in_file = refl }));
})

true_of : (b : Bool) → ¬ (b ≡ false) → b ≡ true
true_of true h = refl
true_of false h = absurd (h refl)

pub is_feature_of : (f : File) (v : Json) → BreaksNone f v → is_feature v ≡ true
is_feature_of f v keeps = true_of (is_feature v) (λ e. keeps C2 0 (e, refl))

-- the geometry of an item is judged
pub is_judged_of : (f : File) (v : Json) → BreaksNone f v → is_judged f v ≡ true
is_judged_of f v keeps =
    let feature = is_feature_of f v keeps in
    let fits = true_of (fits_geometry (geometry_of f) (geometry v)) (λ e. keeps C5 0 (feature, e, refl)) in
    ap (λ b. b && fits_geometry (geometry_of f) (geometry v)) feature ∙ fits

-- all items of a file are collected
pub all_collected : (files : Files) (f : File) (c : Option Json) → FindsNothing files → f ≢ file.Manifest → HasContent files f c → collected c ≡ length (content_items c)
all_collected files f None none features held = refl
all_collected files f (Some v) none features held =
    let is : is_collection v ≡ true = true_of (is_collection v) (λ e. file_keeps files C1 f held.slot none held.at (features, (v, held.is, e))) in
    ap (λ b. if b then length (items_in v) else 0) is

-- the venue file has a value
venue_there : (files : Files) (slot : Slot) → FindsNothing files → IsSlotOf files file.Venue slot → ¬ ((v : Json) → ¬ HasValue slot v)
venue_there files Absent none at empty = file_keeps files V1 file.Venue Absent none at (refl, inl refl)
venue_there files (Held bytes) none at empty =
    let large : ¬ (2 ^ 25 < length bytes) = λ h. file_keeps files F2 file.Venue (Held bytes) none at h in
    let few : length bytes ≤ 2 ^ 25 = omega (arith, large) in
    file_keeps files F3 file.Venue (Held bytes) none at (
      few,
      λ v json.
          let flat : ¬ (depth v ≤ 64) = λ d. empty v (few, json, d) in
          let deep : 64 < depth v = omega (arith, flat) in
          file_keeps files F4 file.Venue (Held bytes) none at (few, (v, json, deep)),
    )

-- there is one venue
pub one_venue : (files : Files) (c : Option Json) → FindsNothing files → HasContent files file.Venue c → length (content_items c) ≡ 1
one_venue files None none held = absurd (venue_there files held.slot none held.at held.is)
one_venue files (Some v) none held =
    let is : is_collection v ≡ true = true_of (is_collection v) (λ e. file_keeps files C1 file.Venue held.slot none held.at ((λ m. cc), (v, held.is, e))) in
    let other : ¬ (length (items_in v) ≢ 1) = λ far. file_keeps files V1 file.Venue held.slot none held.at (refl, inr (v, held.is, is, far)) in
    let below : ¬ (length (items_in v) < 1) = λ h. other (λ e. omega arith) in
    let above : ¬ (1 < length (items_in v)) = λ h. other (λ e. omega arith) in
    omega (arith, below, above)
