-- A file is known by its number, which is its place among all files.
use Rattle.std.proofs.Common.{◌≡◌, ◌∙◌, ◌+◌, ◌<◌, ℕ, zero, suc, List, [], ◌∷◌, Option, Some, unwrap_or, refl, sym, ap, arith}
use Rattle.std.specs.Prelude.{slice_get}
use Rattle.std.proofs.lemmas.Option.{slice_get_within, same_Some}
use Rattle.venue_types.specs.declared.folder_file.File.{File}
use Rattle.venue_types.specs.declared.folder_file.File.TheVariants as file
use Rattle.venue_types.specs.FolderFiles.{file_number, feature_files, all_files}

pub number_at : (f : File) → slice_get all_files (file_number f) ≡ Some f
number_at file.Manifest = refl
number_at file.Address = refl
number_at file.Amenity = refl
number_at file.Anchor = refl
number_at file.Building = refl
number_at file.Detail = refl
number_at file.Fixture = refl
number_at file.Footprint = refl
number_at file.Geofence = refl
number_at file.Kiosk = refl
number_at file.Level = refl
number_at file.Occupant = refl
number_at file.Opening = refl
number_at file.Relationship = refl
number_at file.Section = refl
number_at file.Unit = refl
number_at file.Venue = refl

-- the file of a number
abbrev pub file_at : ℕ → File
file_at n = unwrap_or (slice_get all_files n) file.Manifest

pub at_number : (f : File) → file_at (file_number f) ≡ f
at_number f = ap (λ (o : Option File). unwrap_or o file.Manifest) (number_at f)

pub same_number : (f g : File) → file_number f ≡ file_number g → f ≡ g
same_number f g e = same_Some f g (sym (number_at f) ∙ ap (slice_get all_files) e ∙ number_at g)

pub up_to_16 : (f : File) → file_number f < 17
up_to_16 f = slice_get_within all_files (file_number f) f (number_at f)

-- the feature files have the numbers from 1
pub feature_at : (f : File) (n : ℕ) → n + 1 ≡ file_number f → slice_get feature_files n ≡ Some f
feature_at f n e = let next : suc n ≡ file_number f = omega arith in ap (slice_get all_files) next ∙ number_at f

-- the numbers of the files are these, from n on
abbrev AreNumbered : List File → ℕ → Type 0
AreNumbered [] n = Unit {0}
AreNumbered (f ∷ fs) n = (file_number f ≡ n) × AreNumbered fs (n + 1)

numbered : (fs : List File) (n i : ℕ) (f : File) → AreNumbered fs n → slice_get fs i ≡ Some f → file_number f ≡ n + i
numbered [] n i f are e = cc
numbered (g ∷ gs) n zero f are e = let same : file_number g ≡ file_number f = ap file_number (same_Some g f e) in omega (arith, are.0, same)
numbered (g ∷ gs) n (suc i) f are e = let rest = numbered gs (n + 1) i f are.1 e in omega (arith, rest)

-- the file at a place among all
pub nth_file : (i : ℕ) (f : File) → slice_get all_files i ≡ Some f → file_number f ≡ i
nth_file i f e =
    let at = numbered all_files 0 i f (refl, (refl, (refl, (refl, (refl, (refl, (refl, (refl, (refl, (refl, (refl, (refl, (refl, (refl, (refl, (refl, (refl, tt))))))))))))))))) e in
    omega (arith, at)

-- the feature file at a place
pub nth_number : (i : ℕ) (f : File) → slice_get feature_files i ≡ Some f → file_number f ≡ i + 1
nth_number i f e = let at : file_number f ≡ suc i = nth_file (suc i) f e in omega (arith, at)
