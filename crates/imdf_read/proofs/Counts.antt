-- The features and the positions of all files, against what is counted of their contents.
use Rattle.std.proofs.Common.{◌≡◌, ◌≢◌, ◌∙◌, ℕ, zero, suc, ◌+◌, ◌<◌, ◌≤◌, List, [], ◌∷◌, length, map, drop, Option, Some, refl, sym, ap, subst, arith}
use Rattle.std.specs.Prelude.{slice_get, sum_by}
use Rattle.std.specs.List.{AllZip}
use Rattle.std.proofs.lemmas.List.Concat.{length-flat_map}
use Rattle.std.proofs.lemmas.List.Sums.{sum_by-cons}
use Rattle.std.proofs.lemmas.Slice.Zip.{AllZip-long}
use Rattle.exact_json.specs.Json.{Json}
use Rattle.venue_types.specs.declared.files.Files.{Files}
use Rattle.venue_types.specs.declared.files.Slot.{Slot}
use Rattle.venue_types.specs.declared.features.Features.{Features}
use Rattle.venue_types.specs.declared.folder_file.File.{File}
use Rattle.venue_types.specs.declared.folder_file.File.TheVariants as file
use Rattle.venue_types.specs.FolderFiles.{file_number, feature_files}
use Rattle.imdf_schema.specs.Contents.{IsContent, HasContent, content_items}
use Rattle.imdf_rows.specs.Folder.{AreRows}
use Rattle.imdf_schema.specs.declared.rules.Rule.TheVariants.{S1, S2}
use Rattle.imdf_read.specs.Counts.{collected, file_positions, total_positions, AreContents}
use Rattle.feature_rows.specs.Rows.{ids_of, feature_count}
use Rattle.feature_rows.specs.Figures.{positions_of, positions}
use Rattle.imdf_read.proofs.Nothing.{FindsNothing, folder_keeps, all_collected}

-- the content of a file, and that what is counted of it bounds its features and their positions
pub record IsCounted (files : Files) (features : Features) (f : File) (c : Option Json) : Type 0 where
  pub held : HasContent files f c
  pub items : length (ids_of f features) ≡ collected c
  pub positions : length (positions_of f features) ≤ file_positions f c

pub counted : {Row : Type 0} (IsRow : Json → Row → Type 0) (files : Files) (features : Features) (f : File) (rows : List Row) → FindsNothing files → f ≢ file.Manifest → (are : AreRows IsRow files f rows)
    → length (ids_of f features) ≡ length rows → length (positions_of f features) ≤ file_positions f are.content → IsCounted files features f are.content
counted IsRow files features f rows none not_manifest are ids few = record {
  held = are.held;
  items = ids ∙ AllZip-long IsRow (content_items are.content) rows are.each ∙ sym (all_collected files f are.content none not_manifest are.held);
  positions = few;
}

-- the files stand in the order of their numbers, from this one on
abbrev NumberedFrom : ℕ → List File → Type 0
NumberedFrom n [] = Unit {0}
NumberedFrom n (f ∷ fs) = (file_number f ≡ n) × NumberedFrom (suc n) fs

feature_files_numbered : NumberedFrom 1 feature_files
feature_files_numbered = (refl, (refl, (refl, (refl, (refl, (refl, (refl, (refl, (refl, (refl, (refl, (refl, (refl, (refl, (refl, (refl, tt))))))))))))))))

drop_at : (slots : List Slot) (n : ℕ) (slot : Slot) → slice_get slots n ≡ Some slot → drop n slots ≡ slot ∷ drop (suc n) slots
drop_at [] n slot e = absurd (cc)
drop_at (s ∷ ss) zero slot e = let same : s ≡ slot = cc in ap (λ x. x ∷ ss) same
drop_at (s ∷ ss) (suc n) slot e = drop_at ss n slot e

drop_end : (slots : List Slot) (n : ℕ) → length slots ≡ n → drop n slots ≡ []
drop_end [] zero e = refl
drop_end [] (suc n) e = refl
drop_end (s ∷ ss) zero e = absurd (omega arith)
drop_end (s ∷ ss) (suc n) e = drop_end ss n (omega arith)

contents_from : (files : Files) (features : Features) (fs : List File) (cs : List (Option Json)) (n : ℕ) → NumberedFrom n fs → length files.slots ≡ n + length fs
    → AllZip (IsCounted files features) fs cs → AllZip IsContent (drop n files.slots) cs
contents_from files features [] [] n numbered long zip = subst (λ (ss : List Slot). AllZip IsContent ss []) (sym (drop_end files.slots n (omega arith))) tt
contents_from files features [] (c ∷ cs) n numbered long zip = absurd zip
contents_from files features (f ∷ fs) [] n numbered long zip = absurd zip
contents_from files features (f ∷ fs) (c ∷ cs) n numbered long zip =
    let held = zip.0.held in
    let at : slice_get files.slots n ≡ Some held.slot = subst (λ (k : ℕ). slice_get files.slots k ≡ Some held.slot) numbered.0 held.at in
    let rest = contents_from files features fs cs (suc n) numbered.1 (omega arith) zip.1 in
    subst (λ (ss : List Slot). AllZip IsContent ss (c ∷ cs)) (sym (drop_at files.slots n held.slot at)) (held.is, rest)

items_sum : (files : Files) (features : Features) (fs : List File) (cs : List (Option Json)) → AllZip (IsCounted files features) fs cs → sum_by (λ f. length (ids_of f features)) fs ≡ sum_by collected cs
items_sum files features [] [] zip = refl
items_sum files features [] (c ∷ cs) zip = absurd zip
items_sum files features (f ∷ fs) [] zip = absurd zip
items_sum files features (f ∷ fs) (c ∷ cs) zip =
    let here = zip.0.items in
    let rest = items_sum files features fs cs zip.1 in
    let left : sum_by (λ f. length (ids_of f features)) (f ∷ fs) ≡ length (ids_of f features) + sum_by (λ f. length (ids_of f features)) fs = sum_by-cons (λ f. length (ids_of f features)) f fs in
    let right : sum_by collected (c ∷ cs) ≡ collected c + sum_by collected cs = sum_by-cons collected c cs in
    omega arith

positions_sum : (files : Files) (features : Features) (fs : List File) (cs : List (Option Json)) → AllZip (IsCounted files features) fs cs → sum_by (λ f. length (positions_of f features)) fs ≤ total_positions fs cs
positions_sum files features [] [] zip = omega arith
positions_sum files features [] (c ∷ cs) zip = absurd zip
positions_sum files features (f ∷ fs) [] zip = absurd zip
positions_sum files features (f ∷ fs) (c ∷ cs) zip =
    let here = zip.0.positions in
    let rest = positions_sum files features fs cs zip.1 in
    let left : sum_by (λ f. length (positions_of f features)) (f ∷ fs) ≡ length (positions_of f features) + sum_by (λ f. length (positions_of f features)) fs = sum_by-cons (λ f. length (positions_of f features)) f fs in
    omega arith

-- each of these files is counted
zip_of : (files : Files) (features : Features) (content : File → Option Json) → ((f : File) → f ≢ file.Manifest → IsCounted files features f (content f))
    → (fs : List File) (n : ℕ) → NumberedFrom (suc n) fs → AllZip (IsCounted files features) fs (map content fs)
zip_of files features content each [] n numbered = tt
zip_of files features content each (f ∷ fs) n numbered =
    let not_manifest : f ≢ file.Manifest = λ e. let zero_is : file_number f ≡ 0 = ap file_number e in absurd (omega (arith, numbered.0)) in
    (each f not_manifest, zip_of files features content each fs (suc n) numbered.1)

-- where the contents are known, so are the limits
module _ (files : Files) (features : Features) (none : FindsNothing files) (seventeen : length files.slots ≡ 17) (content : File → Option Json)
    (each : (f : File) → f ≢ file.Manifest → IsCounted files features f (content f)) where
  contents : List (Option Json)
  contents = map content feature_files

  zip : AllZip (IsCounted files features) feature_files contents
  unfolding contents
  zip = zip_of files features content each feature_files 0 feature_files_numbered

  are_contents : AreContents files contents
  are_contents = contents_from files features feature_files contents 1 feature_files_numbered seventeen zip

  pub few_features : feature_count features ≤ 100000
  few_features =
      let many : ¬ (100000 < sum_by collected contents) = λ h. folder_keeps files S1 none (contents, are_contents, h) in
      let same : feature_count features ≡ sum_by collected contents = items_sum files features feature_files contents zip in
      omega (arith, many)

  pub few_positions : length (positions features) ≤ 1000000
  few_positions =
      let many : ¬ (1000000 < total_positions feature_files contents) = λ h. folder_keeps files S2 none (contents, are_contents, h) in
      let long : length (positions features) ≡ sum_by (λ f. length (positions_of f features)) feature_files = length-flat_map (λ f. positions_of f features) feature_files in
      let less = positions_sum files features feature_files contents zip in
      omega (arith, many)
