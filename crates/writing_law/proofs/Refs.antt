-- References, written and read again.
use Rattle.std.proofs.Common.{◌≡◌, ◌∙◌, ℕ, List, Option, Some, None, refl, sym, ap}
use Rattle.std.specs.Prelude.{◌≢◌, All, IfSome}
use Rattle.exact_json.specs.Json.{text}
use Rattle.venue_types.specs.declared.features.Ref.{Ref}
use Rattle.venue_types.specs.declared.folder_file.File.{File}
use Rattle.venue_types.specs.declared.folder_file.File.TheVariants as file
use Rattle.venue_types.specs.FolderFiles.{file_number, file_of_type}
use Rattle.imdf_schema.specs.Forms.{type_of}
use Rattle.imdf_rows.specs.Fields.{ref_of, ref_of_both, refs_field}
use Rattle.imdf_write.specs.Values.{list_value, or_null, type_numbered, reference_value}
use Rattle.writing_law.specs.Fit.{FitsRef}
use Rattle.writing_law.proofs.Lists.{list_back}
use Rattle.writing_law.proofs.Ids.{id_back}

-- the type of a feature file is found by the file's number
pub type_back : (f : File) → f ≢ file.Manifest → type_of (text (type_numbered (file_number f))) ≡ Some f
unfolding type_of file_of_type
type_back file.Manifest features = absurd (features refl)
type_back file.Address features = refl
type_back file.Amenity features = refl
type_back file.Anchor features = refl
type_back file.Building features = refl
type_back file.Detail features = refl
type_back file.Fixture features = refl
type_back file.Footprint features = refl
type_back file.Geofence features = refl
type_back file.Kiosk features = refl
type_back file.Level features = refl
type_back file.Occupant features = refl
type_back file.Opening features = refl
type_back file.Relationship features = refl
type_back file.Section features = refl
type_back file.Unit features = refl
type_back file.Venue features = refl

pub ref_back : (r : Ref) → FitsRef r → ref_of (reference_value r) ≡ Some r
ref_back r fits =
    ap (λ o. ref_of_both o (type_of (text (type_numbered r.feature_type)))) (id_back r.id fits.id)
    ∙ ap (λ n. ref_of_both (Some r.id) (type_of (text (type_numbered n)))) fits.number
    ∙ ap (λ o. ref_of_both (Some r.id) o) (type_back fits.target fits.features)
    ∙ ap (λ (n : ℕ). let x : Ref = record { id = r.id; feature_type = n } in Some x) (sym fits.number)

pub ref_or_none_back : (r : Option Ref) → IfSome r FitsRef → ref_of (or_null reference_value r) ≡ r
unfolding type_of
ref_or_none_back None fits = refl
ref_or_none_back (Some r) fits = ref_back r fits

pub refs_back : (rs : List Ref) → All FitsRef rs → refs_field (list_value reference_value rs) ≡ rs
refs_back rs fits = list_back FitsRef ref_of reference_value ref_back rs fits
